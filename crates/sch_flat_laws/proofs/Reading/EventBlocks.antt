-- The lines of the events of an element of a schema's document are those of one item.
use Rattle.std.proofs.Common.{◌≡◌, ℕ, true, List, [], ◌∷◌, ◌++◌, Some, map, refl, sym, ap, ◌∙◌, subst}
use Rattle.std.specs.Prelude.{codes}
use Rattle.std.specs.List.{flat_map, list_all}
use Rattle.std.proofs.lemmas.Bool.{and_from}
use Rattle.std.proofs.lemmas.Grind.{flat_map-append}
use Rattle.std.proofs.lemmas.List.Folds.{list_all-append}
use Rattle.doc_tree.specs.Lines.{Line, declares}
use Rattle.doc_tree.specs.Scope.{Decl}
use Rattle.name_scopes.specs.Declarations.{declarations, plain_attrs}
use Rattle.name_scopes.specs.ScopedTree.{attribute_line, said_by, written}
use Rattle.pyx_core.specs.declared.event.Attr.{Attr}
use Rattle.pyx_core.specs.declared.event.Event.{Event}
use Rattle.pyx_core.specs.declared.event.Event.TheVariants as event
use Rattle.sch_model.specs.declared.flat.FlatPattern.{FlatPattern}
use Rattle.sch_model.specs.declared.flat.FlatRule.{FlatRule}
use Rattle.sch_model.specs.declared.parts.Active.{Active}
use Rattle.sch_model.specs.declared.parts.Assertion.{Assertion}
use Rattle.sch_model.specs.declared.parts.Diagnostic.{Diagnostic}
use Rattle.sch_model.specs.declared.parts.LetDecl.{LetDecl}
use Rattle.sch_model.specs.declared.parts.Ns.{Ns}
use Rattle.sch_model.specs.declared.parts.Part.{Part}
use Rattle.sch_model.specs.declared.parts.Part.TheVariants.{Chars, ValueOf, Name}
use Rattle.sch_model.specs.declared.parts.Phase.{Phase}
use Rattle.sch_flat.specs.FlatDocument.{active_events, assertion_events, assertion_name, characters, let_events, note_events, ns_events, only_given, part_events, pattern_events, phase_events, rule_events}
use Rattle.sch_flat_laws.proofs.Reading.Blocks.{Block, Inner, element_block, inner_append, inner_nil, is_quiet, text_block}

-- what events tell
abbrev pub said : List Event → List Line
said events = flat_map said_by events

pub said_append : (xs ys : List Event) → said (xs ++ ys) ≡ said xs ++ said ys
said_append xs ys = flat_map-append said_by xs ys

-- whole items
pub record Holds (events : List Event) : Type 0 where
  pub inner : Inner (said events)

-- one item
pub record Chunk (events : List Event) : Type 0 where
  pub block : Block (said events)

pub holds_nil : Holds []
holds_nil = record { inner = inner_nil }

pub holds_append : (xs ys : List Event) → Holds xs → Holds ys → Holds (xs ++ ys)
holds_append xs ys first last = record {
  inner = subst Inner (sym (said_append xs ys)) (inner_append (said xs) (said ys) first.inner last.inner);
}

pub holds_all : {A : Type 0} (f : A → List Event) → ((x : A) → Chunk (f x)) → (xs : List A) → Holds (flat_map f xs)
holds_all f each [] = holds_nil
holds_all f each (x ∷ xs) = holds_append (f x) (flat_map f xs) (record { inner = (each x).block.inner }) (holds_all f each xs)

pub holds_some : {A : Type 0} (f : A → List Event) → ((x : A) → Holds (f x)) → (xs : List A) → Holds (flat_map f xs)
holds_some f each [] = holds_nil
holds_some f each (x ∷ xs) = holds_append (f x) (flat_map f xs) (each x) (holds_some f each xs)

pub holds_characters : (text : List ℕ) → Holds (characters text)
holds_characters [] = holds_nil
holds_characters (byte ∷ text) = record { inner = (text_block (byte ∷ text)).inner }

-- what a start tells after its first line
abbrev pub head_lines : List Attr → List Line
head_lines attrs = map declares (declarations attrs) ++ map attribute_line (plain_attrs attrs)

quiet-declared : (decls : List Decl) → list_all is_quiet (map declares decls) ≡ true
unfolding is_quiet
quiet-declared [] = refl
quiet-declared (d ∷ ds) = quiet-declared ds

quiet-attributed : (attrs : List Attr) → list_all is_quiet (map attribute_line attrs) ≡ true
unfolding is_quiet
quiet-attributed [] = refl
quiet-attributed (a ∷ attrs) = quiet-attributed attrs

pub quiet_head : (attrs : List Attr) → list_all is_quiet (head_lines attrs) ≡ true
quiet_head attrs =
    list_all-append is_quiet (map declares (declarations attrs)) (map attribute_line (plain_attrs attrs))
    ∙ and_from _ _ (quiet-declared (declarations attrs)) (quiet-attributed (plain_attrs attrs))

pub said_element : (name : List ℕ) (attrs : List Attr) (held : List Event) →
    said (event.Start name attrs ∷ (held ++ event.End name ∷ [])) ≡ said_by (event.Start name attrs) ++ (said held ++ said_by (event.End name))
said_element name attrs held = ap (λ l. said_by (event.Start name attrs) ++ l) (said_append held (event.End name ∷ []))

pub chunk_element : (name : List ℕ) (attrs : List Attr) (held : List Event) → Holds held →
    Chunk (event.Start name attrs ∷ (held ++ event.End name ∷ []))
chunk_element name attrs held holds = record {
  block = subst Block (sym (said_element name attrs held))
      (element_block (written name) (written name) (head_lines attrs) (said held) (quiet_head attrs) holds.inner);
}

pub ns_chunk : (ns : Ns) → Chunk (ns_events ns)
ns_chunk ns = chunk_element (codes "sch:ns") _ [] holds_nil

pub let_chunk : (decl : LetDecl) → Chunk (let_events decl)
let_chunk decl = chunk_element (codes "sch:let") _ [] holds_nil

pub active_chunk : (active : Active) → Chunk (active_events active)
active_chunk active = chunk_element (codes "sch:active") _ [] holds_nil

pub phase_chunk : (phase : Phase) → Chunk (phase_events phase)
phase_chunk phase =
    chunk_element (codes "sch:phase") _ (flat_map let_events phase.lets ++ flat_map active_events phase.active)
    (holds_append (flat_map let_events phase.lets) (flat_map active_events phase.active)
    (holds_all let_events let_chunk phase.lets) (holds_all active_events active_chunk phase.active))

pub part_holds : (part : Part) → Holds (part_events part)
part_holds (Chars text) = holds_characters text
part_holds (ValueOf node select) = record { inner = (chunk_element (codes "sch:value-of") (only_given ((codes "select", Some select) ∷ [])) [] holds_nil).block.inner }
part_holds (Name node path) = record { inner = (chunk_element (codes "sch:name") (only_given ((codes "path", path) ∷ [])) [] holds_nil).block.inner }

pub assertion_chunk : (assertion : Assertion) → Chunk (assertion_events assertion)
assertion_chunk assertion =
    chunk_element (assertion_name assertion.report) _ (flat_map part_events assertion.message) (holds_some part_events part_holds assertion.message)

pub rule_chunk : (rule : FlatRule) → Chunk (rule_events rule)
rule_chunk rule =
    chunk_element (codes "sch:rule") _ (flat_map let_events rule.lets ++ flat_map assertion_events rule.assertions)
    (holds_append (flat_map let_events rule.lets) (flat_map assertion_events rule.assertions)
    (holds_all let_events let_chunk rule.lets) (holds_all assertion_events assertion_chunk rule.assertions))

pub pattern_chunk : (pattern : FlatPattern) → Chunk (pattern_events pattern)
pattern_chunk pattern =
    chunk_element (codes "sch:pattern") _ (flat_map let_events pattern.lets ++ flat_map rule_events pattern.rules)
    (holds_append (flat_map let_events pattern.lets) (flat_map rule_events pattern.rules)
    (holds_all let_events let_chunk pattern.lets) (holds_all rule_events rule_chunk pattern.rules))

pub note_chunk : (name : List ℕ) (note : Diagnostic) → Chunk (note_events name note)
note_chunk name note = chunk_element name _ (flat_map part_events note.message) (holds_some part_events part_holds note.message)
