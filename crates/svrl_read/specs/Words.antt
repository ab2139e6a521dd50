-- The elements of a report by their local names (ISO/IEC 19757-3, annex on SVRL).
use Rattle.std.specs.Prelude.{ℕ, Bool, true, false, List, [], ◌∷◌, Option, Some, codes}
use Rattle.sch_base.specs.Named.{named}
use Rattle.svrl_read.specs.declared.words.Word.{Word}
use Rattle.svrl_read.specs.declared.words.Word.TheVariants.{Output, Prefix, Pattern, Rule, Assert, Report, Diagnostic, Property, Text}

-- the namespace of SVRL
abbrev pub svrl : List ℕ
svrl = codes "http://purl.oclc.org/dsdl/svrl"

-- the local names of the elements
abbrev pub word_names : List (List ℕ × Word)
word_names = (codes "schematron-output", Output)
    ∷ (codes "ns-prefix-in-attribute-values", Prefix)
    ∷ (codes "active-pattern", Pattern)
    ∷ (codes "fired-rule", Rule)
    ∷ (codes "failed-assert", Assert)
    ∷ (codes "successful-report", Report)
    ∷ (codes "diagnostic-reference", Diagnostic)
    ∷ (codes "property-reference", Property)
    ∷ (codes "text", Text)
    ∷ []

-- the element with a local name; None where there is none
unfoldable pub word_of : List ℕ → Option Word
word_of name = named word_names name

-- whether it is the element of a message
abbrev pub is_text : Option Word → Bool
is_text (Some Text) = true
is_text _ = false
