-- What a document says as a schema. A missing attribute reads as the empty text.
use Rattle.std.specs.Prelude.{map, chars, encode_utf8_all, ℕ, Bool, true, false, List, [], ◌∷◌, ◌++◌, Option, None, Some, codes, find, option_map, if◌then◌else◌}
use Rattle.std.specs.List.{flat_map}
use Rattle.doc_tree.specs.Table.{Table, content_of, kids_of}
use Rattle.doc_tree.specs.Walks.{below, characters_in}
use Rattle.sch_base.specs.Characters.{is_whitespace}
use Rattle.sch_model.specs.declared.parts.Active.{Active}
use Rattle.sch_model.specs.declared.parts.Assertion.{Assertion}
use Rattle.sch_model.specs.declared.parts.Diagnostic.{Diagnostic}
use Rattle.sch_model.specs.declared.parts.Head.{Head}
use Rattle.sch_model.specs.declared.parts.LetDecl.{LetDecl}
use Rattle.sch_model.specs.declared.parts.Ns.{Ns}
use Rattle.sch_model.specs.declared.parts.Part.{Part}
use Rattle.sch_model.specs.declared.parts.Part.TheVariants.{Chars, ValueOf, Name}
use Rattle.sch_model.specs.declared.parts.Phase.{Phase}
use Rattle.sch_model.specs.declared.raw.Param.{Param}
use Rattle.sch_model.specs.declared.raw.RawItem.{RawItem}
use Rattle.sch_model.specs.declared.raw.RawItem.TheVariants as item
use Rattle.sch_model.specs.declared.raw.RawPattern.{RawPattern}
use Rattle.sch_model.specs.declared.raw.RawRule.{RawRule}
use Rattle.sch_model.specs.declared.raw.RawSchema.{RawSchema}
use Rattle.sch_rules.specs.declared.word.Word.{Word}
use Rattle.sch_rules.specs.declared.word.Word.TheVariants as word
use Rattle.sch_rules.specs.Attributes.{is_abstract, said, said_text}
use Rattle.sch_rules.specs.Elements.{document_element, is_ignored, word_above, word_at}
use Rattle.sch_rules.specs.Words.{has_text, is_word}

-- what is read of the node, where it is this element
abbrev pub read_if : {A : Type 0} → Table → Word → (ℕ → A) → ℕ → List A
read_if T word read n = if is_word word (word_at T n) then read n ∷ [] else []

-- what is read of each kid that is this element, in their order
abbrev pub read_kids : {A : Type 0} → Table → Word → (ℕ → A) → ℕ → List A
read_kids T word read n = flat_map (read_if T word read) (kids_of T n)

abbrev pub ns_of : Table → ℕ → Ns
ns_of T n = record { node = n; prefix = said_text T n (codes "prefix"); uri = said_text T n (codes "uri") }

abbrev pub let_of : Table → ℕ → LetDecl
let_of T n = record { node = n; name = said_text T n (codes "name"); value = said_text T n (codes "value") }

abbrev pub active_of : Table → ℕ → Active
active_of T n = record { node = n; pattern = said_text T n (codes "pattern") }

abbrev pub phase_of : Table → ℕ → Phase
phase_of T n = record {
  node = n;
  id = said_text T n (codes "id");
  lets = read_kids T word.Let (let_of T) n;
  active = read_kids T word.Active (active_of T) n;
}

abbrev pub param_of : Table → ℕ → Param
param_of T n = record { node = n; name = said_text T n (codes "name"); value = said_text T n (codes "value") }

-- whether there is a word, and text in this element counts
abbrev pub holds_text : Option Word → Bool
holds_text None = false
holds_text (Some word) = has_text word

-- the characters of a text that counts
abbrev pub text_at : Table → ℕ → List ℕ
text_at T n = if holds_text (word_above T n) then characters_in (content_of T n) else []

-- the text of a title: that in it, and in `dir`, `emph` and `span` in it
abbrev pub counted_text : Table → ℕ → List ℕ
counted_text T n = if is_ignored T n then [] else text_at T n

abbrev pub title_of : Table → ℕ → List ℕ
title_of T n = flat_map (counted_text T) (below T n)

-- characters as a part, where there are some
abbrev pub chars_part : List ℕ → List Part
chars_part [] = []
chars_part (c ∷ characters) = Chars (c ∷ characters) ∷ []

-- the part of a message that a node is; `dir`, `emph` and `span` count as what they hold
abbrev pub own_part : Table → ℕ → List Part
own_part T n =
    if is_word word.ValueOf (word_at T n) then ValueOf n (said_text T n (codes "select")) ∷ []
    else if is_word word.Name (word_at T n) then Name n (said T n (codes "path")) ∷ []
    else chars_part (text_at T n)

abbrev pub part_at : Table → ℕ → List Part
part_at T n = if is_ignored T n then [] else own_part T n

-- characters before parts: characters that meet are one part
abbrev pub chars_before : List ℕ → List Part → List Part
chars_before characters [] = Chars characters ∷ []
chars_before characters (Chars more ∷ parts) = Chars (characters ++ more) ∷ parts
chars_before characters (ValueOf n select ∷ parts) = Chars characters ∷ ValueOf n select ∷ parts
chars_before characters (Name n path ∷ parts) = Chars characters ∷ Name n path ∷ parts

abbrev pub joined : List Part → List Part
joined [] = []
joined (Chars characters ∷ parts) = chars_before characters (joined parts)
joined (ValueOf n select ∷ parts) = ValueOf n select ∷ joined parts
joined (Name n path ∷ parts) = Name n path ∷ joined parts

-- a message: its parts in document order
abbrev pub message_of : Table → ℕ → List Part
message_of T n = joined (flat_map (part_at T) (below T n))

-- characters cut at whitespace (XML 1.0, section 2.3): a character goes to the first piece
abbrev pub with_character : ℕ → List (List ℕ) → List (List ℕ)
with_character c [] = (c ∷ []) ∷ []
with_character c (piece ∷ pieces) = (c ∷ piece) ∷ pieces

abbrev pub pieces : List ℕ → List (List ℕ)
pieces [] = [] ∷ []
pieces (c ∷ characters) = if is_whitespace c then [] ∷ pieces characters else with_character c (pieces characters)

abbrev pub without_empty : List (List ℕ) → List (List ℕ)
without_empty [] = []
without_empty ([] ∷ texts) = without_empty texts
without_empty ((b ∷ text) ∷ texts) = (b ∷ text) ∷ without_empty texts

-- the ids of a list, which are parted by whitespace
abbrev pub ids_in : List ℕ → List (List ℕ)
ids_in text = without_empty (map encode_utf8_all (pieces (chars text)))

abbrev pub assertion_of : Table → Bool → ℕ → Assertion
assertion_of T report n = record {
  node = n;
  report = report;
  id = said T n (codes "id");
  role = said T n (codes "role");
  flag = said T n (codes "flag");
  test = said_text T n (codes "test");
  subject = said T n (codes "subject");
  diagnostics = ids_in (said_text T n (codes "diagnostics"));
  properties = ids_in (said_text T n (codes "properties"));
  message = message_of T n;
}

-- what a rule holds
abbrev pub item_of : Table → ℕ → Option Word → List RawItem
item_of T n (Some word.Let) = item.Let (let_of T n) ∷ []
item_of T n (Some word.Assert) = item.Assertion (assertion_of T false n) ∷ []
item_of T n (Some word.Report) = item.Assertion (assertion_of T true n) ∷ []
item_of T n (Some word.Extends) = item.Extends n (said_text T n (codes "rule")) ∷ []
item_of T n _ = []

abbrev pub item_at : Table → ℕ → List RawItem
item_at T n = item_of T n (word_at T n)

abbrev pub rule_of : Table → ℕ → RawRule
rule_of T n = record {
  node = n;
  is_abstract = is_abstract T n;
  id = said T n (codes "id");
  context = said T n (codes "context");
  subject = said T n (codes "subject");
  role = said T n (codes "role");
  flag = said T n (codes "flag");
  items = flat_map (item_at T) (kids_of T n);
}

abbrev pub pattern_of : Table → ℕ → RawPattern
pattern_of T n = record {
  node = n;
  is_abstract = is_abstract T n;
  id = said T n (codes "id");
  is_a = said T n (codes "is-a");
  params = read_kids T word.Param (param_of T) n;
  lets = read_kids T word.Let (let_of T) n;
  rules = read_kids T word.Rule (rule_of T) n;
}

-- a diagnostic, or a property
abbrev pub diagnostic_of : Table → ℕ → Diagnostic
diagnostic_of T n = record { node = n; id = said_text T n (codes "id"); message = message_of T n }

-- what an element holds of diagnostics, where it is `diagnostics`, or of properties, where it is `properties`
abbrev pub notes_at : Table → Word → Word → ℕ → List Diagnostic
notes_at T group note n = if is_word group (word_at T n) then read_kids T note (diagnostic_of T) n else []

abbrev pub diagnostics_at : Table → ℕ → List Diagnostic
diagnostics_at T n = notes_at T word.Diagnostics word.Diagnostic n

abbrev pub properties_at : Table → ℕ → List Diagnostic
properties_at T n = notes_at T word.Properties word.Property n

abbrev pub head_of : Table → ℕ → Head
head_of T n = record {
  node = n;
  schema_version = said T n (codes "schemaVersion");
  default_phase = said T n (codes "defaultPhase");
  title = option_map (title_of T) (find (λ k. is_word word.Title (word_at T k)) (kids_of T n));
}

abbrev pub schema_of : Table → ℕ → RawSchema
schema_of T n = record {
  head = head_of T n;
  ns = read_kids T word.Ns (ns_of T) n;
  lets = read_kids T word.Let (let_of T) n;
  phases = read_kids T word.Phase (phase_of T) n;
  patterns = read_kids T word.Pattern (pattern_of T) n;
  diagnostics = flat_map (diagnostics_at T) (kids_of T n);
  properties = flat_map (properties_at T) (kids_of T n);
}

abbrev pub raw_schema : Table → RawSchema
raw_schema T = schema_of T (document_element T)
