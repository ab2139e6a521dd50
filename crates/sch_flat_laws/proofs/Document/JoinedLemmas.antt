-- Where texts stand among the events of a schema's document.
use Rattle.std.proofs.Common.{◌≡◌, Bool, true, false, not, ◌&&◌, List, [], ◌∷◌, ◌++◌, Option, None, Some, ℕ, refl, sym, subst, append_assoc}
use Rattle.std.specs.Prelude.{codes}
use Rattle.std.specs.List.{flat_map, list_all}
use Rattle.std.proofs.lemmas.Bool.{and_parts}
use Rattle.doc_tree.specs.Walks.{below}
use Rattle.pyx_core.specs.declared.event.Attr.{Attr}
use Rattle.pyx_core.specs.declared.event.Event.{Event}
use Rattle.pyx_core.specs.declared.event.Event.TheVariants as event
use Rattle.sch_model.specs.declared.flat.FlatPattern.{FlatPattern}
use Rattle.sch_model.specs.declared.flat.FlatRule.{FlatRule}
use Rattle.sch_model.specs.declared.flat.FlatSchema.{FlatSchema}
use Rattle.sch_model.specs.declared.parts.Active.{Active}
use Rattle.sch_model.specs.declared.parts.Assertion.{Assertion}
use Rattle.sch_model.specs.declared.parts.Diagnostic.{Diagnostic}
use Rattle.sch_model.specs.declared.parts.LetDecl.{LetDecl}
use Rattle.sch_model.specs.declared.parts.Ns.{Ns}
use Rattle.sch_model.specs.declared.parts.Part.{Part}
use Rattle.sch_model.specs.declared.parts.Part.TheVariants.{Chars, ValueOf, Name}
use Rattle.sch_model.specs.declared.parts.Phase.{Phase}
use Rattle.sch_rules.specs.RawSchema.{chars_before, joined, part_at}
use Rattle.sch_flat.specs.FlatDocument.{active_events, assertion_events, assertion_name, characters, diagnostics_events, flat_events, held_events, let_events, note_events, notes_events, ns_events, part_events, pattern_events, phase_events, rule_events, title_events}
use Rattle.sch_flat_laws.specs.FlatText.{are_apart}
use Rattle.sch_flat_laws.specs.Joined.{TextsStandApart, are_joined, are_joined_notes, is_joined, is_joined_pattern, is_joined_rule}

-- messages that are read
not-after : (text : List ℕ) (parts : List Part) → are_joined false parts ≡ true → are_joined false (chars_before text parts) ≡ true
not-after text [] h = refl
not-after text (Chars more ∷ parts) h = h
not-after text (ValueOf n select ∷ parts) h = h
not-after text (Name n path ∷ parts) h = h

joined-apart : (parts : List Part) → are_joined false (joined parts) ≡ true
joined-apart [] = refl
joined-apart (Chars text ∷ parts) = not-after text (joined parts) (joined-apart parts)
joined-apart (ValueOf n select ∷ parts) = joined-apart parts
joined-apart (Name n path ∷ parts) = joined-apart parts

-- what follows may stand after a text, and where none is
pub record Free (later : List Event) : Type 0 where
  pub go : (b : Bool) → are_apart b later ≡ true

-- events with such before them and after them
pub record Steady (events : List Event) : Type 0 where
  pub go : (later : List Event) → Free later → Free (events ++ later)

-- events in an element
pub record Held (events : List Event) : Type 0 where
  pub go : (later : List Event) → Free later → are_apart false (events ++ later) ≡ true

free-end : (name : List ℕ) (later : List Event) → Free later → Free (event.End name ∷ later)
free-end name later free = record { go = λ b. free.go false }

steady-nil : Steady []
steady-nil = record { go = λ later free. free }

steady-append : (xs ys : List Event) → Steady xs → Steady ys → Steady (xs ++ ys)
steady-append xs ys first last = record {
  go = λ later free. subst Free (sym (append_assoc xs ys later)) (first.go (ys ++ later) (last.go later free));
}

steady-all : {A : Type 0} (f : A → List Event) (ok : A → Bool) → ((x : A) → ok x ≡ true → Steady (f x)) → (xs : List A) → list_all ok xs ≡ true → Steady (flat_map f xs)
steady-all f ok each [] h = steady-nil
steady-all f ok each (x ∷ xs) h =
    let parts = and_parts (ok x) (list_all ok xs) h in
    steady-append (f x) (flat_map f xs) (each x parts.0) (steady-all f ok each xs parts.1)

steady-every : {A : Type 0} (f : A → List Event) → ((x : A) → Steady (f x)) → (xs : List A) → Steady (flat_map f xs)
steady-every f each [] = steady-nil
steady-every f each (x ∷ xs) = steady-append (f x) (flat_map f xs) (each x) (steady-every f each xs)

held : (events : List Event) → Steady events → Held events
held events steady = record { go = λ later free. (steady.go later free).go false }

steady-element : (name : List ℕ) (attrs : List Attr) (inside : List Event) → Held inside →
    Steady (event.Start name attrs ∷ (inside ++ event.End name ∷ []))
steady-element name attrs inside h = record {
  go = λ later free. record {
    go = λ b. subst (λ (l : List Event). are_apart false l ≡ true) (sym (append_assoc inside (event.End name ∷ []) later))
        (h.go (event.End name ∷ later) (free-end name later free));
  };
}

held-characters : (text : List ℕ) → Held (characters text)
held-characters [] = record { go = λ later free. free.go false }
held-characters (byte ∷ text) = record { go = λ later free. free.go true }

-- the parts of a message, after a text or none
parts-apart : (after b : Bool) (parts : List Part) (later : List Event) → (b && not after) ≡ false → are_joined after parts ≡ true → Free later →
    are_apart b (flat_map part_events parts ++ later) ≡ true
parts-apart after b [] later less h free = free.go b
parts-apart true b (Chars text ∷ parts) later less h free = absurd (cc)
parts-apart false true (Chars text ∷ parts) later less h free = absurd (cc)
parts-apart false false (Chars [] ∷ parts) later less h free = parts-apart true false parts later refl h free
parts-apart false false (Chars (byte ∷ text) ∷ parts) later less h free = parts-apart true true parts later refl h free
parts-apart after b (ValueOf n select ∷ parts) later less h free = parts-apart false false parts later refl h free
parts-apart after b (Name n path ∷ parts) later less h free = parts-apart false false parts later refl h free

held-message : (parts : List Part) → are_joined false parts ≡ true → Held (flat_map part_events parts)
held-message parts h = record { go = λ later free. parts-apart false false parts later refl h free }

ns-steady : (ns : Ns) → Steady (ns_events ns)
ns-steady ns = steady-element (codes "sch:ns") _ [] (held [] steady-nil)

let-steady : (decl : LetDecl) → Steady (let_events decl)
let-steady decl = steady-element (codes "sch:let") _ [] (held [] steady-nil)

active-steady : (active : Active) → Steady (active_events active)
active-steady active = steady-element (codes "sch:active") _ [] (held [] steady-nil)

two-held : (xs ys : List Event) → Steady xs → Steady ys → Held (xs ++ ys)
two-held xs ys h k = held (xs ++ ys) (steady-append xs ys h k)

phase-steady : (phase : Phase) → Steady (phase_events phase)
phase-steady phase =
    steady-element (codes "sch:phase") _ (flat_map let_events phase.lets ++ flat_map active_events phase.active)
    (two-held (flat_map let_events phase.lets) (flat_map active_events phase.active)
    (steady-every let_events let-steady phase.lets) (steady-every active_events active-steady phase.active))

assertion-steady : (assertion : Assertion) → are_joined false assertion.message ≡ true → Steady (assertion_events assertion)
assertion-steady assertion h =
    steady-element (assertion_name assertion.report) _ (flat_map part_events assertion.message) (held-message assertion.message h)

rule-steady : (rule : FlatRule) → is_joined_rule rule ≡ true → Steady (rule_events rule)
rule-steady rule h =
    steady-element (codes "sch:rule") _ (flat_map let_events rule.lets ++ flat_map assertion_events rule.assertions)
    (two-held (flat_map let_events rule.lets) (flat_map assertion_events rule.assertions)
    (steady-every let_events let-steady rule.lets)
    (steady-all assertion_events (λ (a : Assertion). are_joined false a.message) assertion-steady rule.assertions h))

pattern-steady : (pattern : FlatPattern) → is_joined_pattern pattern ≡ true → Steady (pattern_events pattern)
pattern-steady pattern h =
    steady-element (codes "sch:pattern") _ (flat_map let_events pattern.lets ++ flat_map rule_events pattern.rules)
    (two-held (flat_map let_events pattern.lets) (flat_map rule_events pattern.rules)
    (steady-every let_events let-steady pattern.lets) (steady-all rule_events is_joined_rule rule-steady pattern.rules h))

note-steady : (name : List ℕ) (note : Diagnostic) → are_joined false note.message ≡ true → Steady (note_events name note)
note-steady name note h = steady-element name _ (flat_map part_events note.message) (held-message note.message h)

notes-steady : (group name : List ℕ) (notes : List Diagnostic) → are_joined_notes notes ≡ true → Steady (notes_events group name notes)
notes-steady group name [] h = steady-nil
notes-steady group name (d ∷ ds) h =
    steady-element group [] (flat_map (note_events name) (d ∷ ds))
    (held (flat_map (note_events name) (d ∷ ds)) (steady-all (note_events name) (λ (d : Diagnostic). are_joined false d.message) (note-steady name) (d ∷ ds) h))

title-steady : (title : Option (List ℕ)) → Steady (title_events title)
title-steady None = steady-nil
title-steady (Some title) = steady-element (codes "sch:title") [] (characters title) (held-characters title)

held-steady : (schema : FlatSchema) → is_joined schema ≡ true → Steady (held_events schema)
held-steady schema h =
    let parts = and_parts (list_all is_joined_pattern schema.patterns) (are_joined_notes schema.diagnostics && are_joined_notes schema.properties) h in
    let notes = and_parts (are_joined_notes schema.diagnostics) (are_joined_notes schema.properties) parts.1 in
    steady-append (title_events schema.head.title) _ (title-steady schema.head.title)
    (steady-append (flat_map ns_events schema.ns) _ (steady-every ns_events ns-steady schema.ns)
    (steady-append (flat_map let_events schema.lets) _ (steady-every let_events let-steady schema.lets)
    (steady-append (flat_map phase_events schema.phases) _ (steady-every phase_events phase-steady schema.phases)
    (steady-append (flat_map pattern_events schema.patterns) _ (steady-all pattern_events is_joined_pattern pattern-steady schema.patterns parts.0)
    (steady-append (diagnostics_events schema.diagnostics) _ (notes-steady (codes "sch:diagnostics") (codes "sch:diagnostic") schema.diagnostics notes.0)
    (notes-steady (codes "sch:properties") (codes "sch:property") schema.properties notes.1))))))

schema-apart : (schema : FlatSchema) → is_joined schema ≡ true → are_apart false (flat_events schema) ≡ true
schema-apart schema h =
    (held (held_events schema) (held-steady schema h)).go (event.End (codes "sch:schema") ∷ []) (record { go = λ b. refl })

pub texts_apart : TextsStandApart
texts_apart = record {
  read = λ T n. joined-apart (flat_map (part_at T) (below T n));
  written = schema-apart;
}
