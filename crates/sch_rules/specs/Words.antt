-- The elements of a schema by their local names, which element may stand in which, and what each requires
-- (ISO/IEC 19757-3, section 5).
use Rattle.std.specs.Prelude.{ℕ, Bool, true, false, ◌==◌, List, [], ◌∷◌, Option, None, Some, codes, if◌then◌else◌}
use Rattle.sch_base.specs.Named.{named}
use Rattle.sch_rules.specs.declared.word.Word.{Word}
use Rattle.sch_rules.specs.declared.word.Word.TheVariants.{Schema, Title, Ns, P, Let, Phase, Active, Pattern, Param, Rule, Extends, Assert, Report, Diagnostics, Diagnostic, Properties, Property, Dir, Emph, Span, ValueOf, Name}

-- the namespace of Schematron
abbrev pub schematron : List ℕ
schematron = codes "http://purl.oclc.org/dsdl/schematron"

-- the local names of the elements
abbrev pub word_names : List (List ℕ × Word)
word_names = (codes "schema", Schema)
    ∷ (codes "title", Title)
    ∷ (codes "ns", Ns)
    ∷ (codes "p", P)
    ∷ (codes "let", Let)
    ∷ (codes "phase", Phase)
    ∷ (codes "active", Active)
    ∷ (codes "pattern", Pattern)
    ∷ (codes "param", Param)
    ∷ (codes "rule", Rule)
    ∷ (codes "extends", Extends)
    ∷ (codes "assert", Assert)
    ∷ (codes "report", Report)
    ∷ (codes "diagnostics", Diagnostics)
    ∷ (codes "diagnostic", Diagnostic)
    ∷ (codes "properties", Properties)
    ∷ (codes "property", Property)
    ∷ (codes "dir", Dir)
    ∷ (codes "emph", Emph)
    ∷ (codes "span", Span)
    ∷ (codes "value-of", ValueOf)
    ∷ (codes "name", Name)
    ∷ []

-- the element with a local name; None where there is none
unfoldable pub word_of : List ℕ → Option Word
word_of name = named word_names name

-- dir, emph and span, which hold text in titles and paragraphs
abbrev pub is_styled : Word → Bool
is_styled Dir = true
is_styled Emph = true
is_styled Span = true
is_styled _ = false

-- what a message holds beside text
abbrev pub is_message_part : Word → Bool
is_message_part Name = true
is_message_part ValueOf = true
is_message_part word = is_styled word

abbrev pub is_schema_part : Word → Bool
is_schema_part Title = true
is_schema_part Ns = true
is_schema_part P = true
is_schema_part Let = true
is_schema_part Phase = true
is_schema_part Pattern = true
is_schema_part Diagnostics = true
is_schema_part Properties = true
is_schema_part _ = false

abbrev pub is_phase_part : Word → Bool
is_phase_part P = true
is_phase_part Let = true
is_phase_part Active = true
is_phase_part _ = false

abbrev pub is_pattern_part : Word → Bool
is_pattern_part Title = true
is_pattern_part P = true
is_pattern_part Let = true
is_pattern_part Rule = true
is_pattern_part Param = true
is_pattern_part _ = false

abbrev pub is_rule_part : Word → Bool
is_rule_part P = true
is_rule_part Let = true
is_rule_part Assert = true
is_rule_part Report = true
is_rule_part Extends = true
is_rule_part _ = false

abbrev pub is_diagnostic : Word → Bool
is_diagnostic Diagnostic = true
is_diagnostic _ = false

abbrev pub is_property : Word → Bool
is_property Property = true
is_property _ = false

-- whether the first element may hold the second; the order among what an element holds is free
abbrev pub holds : Word → Word → Bool
holds Schema kid = is_schema_part kid
holds Title kid = is_styled kid
holds Ns kid = false
holds P kid = is_styled kid
holds Let kid = false
holds Phase kid = is_phase_part kid
holds Active kid = is_styled kid
holds Pattern kid = is_pattern_part kid
holds Param kid = false
holds Rule kid = is_rule_part kid
holds Extends kid = false
holds Assert kid = is_message_part kid
holds Report kid = is_message_part kid
holds Diagnostics kid = is_diagnostic kid
holds Diagnostic kid = is_message_part kid
holds Properties kid = is_property kid
holds Property kid = is_message_part kid
holds Dir kid = is_message_part kid
holds Emph kid = is_message_part kid
holds Span kid = is_message_part kid
holds ValueOf kid = false
holds Name kid = false

-- whether text in the element counts
abbrev pub has_text : Word → Bool
has_text Title = true
has_text P = true
has_text Active = true
has_text Assert = true
has_text Report = true
has_text Diagnostic = true
has_text Property = true
has_text word = is_styled word

-- the attributes that an element requires, in the order in which they are told; whether it is abstract decides for
-- patterns and rules
abbrev pub required : Word → Bool → List (List ℕ)
required Ns is_abstract = codes "prefix" ∷ codes "uri" ∷ []
required Let is_abstract = codes "name" ∷ codes "value" ∷ []
required Phase is_abstract = codes "id" ∷ []
required Active is_abstract = codes "pattern" ∷ []
required Pattern is_abstract = if is_abstract then codes "id" ∷ [] else []
required Param is_abstract = codes "name" ∷ codes "value" ∷ []
required Rule is_abstract = (if is_abstract then codes "id" else codes "context") ∷ []
required Extends is_abstract = codes "rule" ∷ []
required Assert is_abstract = codes "test" ∷ []
required Report is_abstract = codes "test" ∷ []
required Diagnostic is_abstract = codes "id" ∷ []
required Property is_abstract = codes "id" ∷ []
required ValueOf is_abstract = codes "select" ∷ []
required _ is_abstract = []

-- the words in their order, by which two are compared
abbrev pub rank : Word → ℕ
rank Schema = 0
rank Title = 1
rank Ns = 2
rank P = 3
rank Let = 4
rank Phase = 5
rank Active = 6
rank Pattern = 7
rank Param = 8
rank Rule = 9
rank Extends = 10
rank Assert = 11
rank Report = 12
rank Diagnostics = 13
rank Diagnostic = 14
rank Properties = 15
rank Property = 16
rank Dir = 17
rank Emph = 18
rank Span = 19
rank ValueOf = 20
rank Name = 21

-- whether there is a word, and it is this one
abbrev pub is_word : Word → Option Word → Bool
is_word word None = false
is_word word (Some other) = rank word == rank other

-- whether there are two words, of which the first may hold the second
abbrev pub may_hold : Option Word → Option Word → Bool
may_hold None kid = false
may_hold (Some parent) None = false
may_hold (Some parent) (Some kid) = holds parent kid
