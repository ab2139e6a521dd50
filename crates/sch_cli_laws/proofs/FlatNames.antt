-- No element of the document of a flat schema is an include.
use Rattle.std.proofs.Common.{◌≡◌, ℕ, Bool, true, false, ◌&&◌, List, [], ◌∷◌, ◌++◌, map, Option, None, Some, refl, sym, subst}
use Rattle.std.specs.Prelude.{codes}
use Rattle.std.specs.List.{flat_map}
use Rattle.std.specs.Str.{bytes_eq}
use Rattle.pyx_core.specs.declared.event.Attr.{Attr}
use Rattle.pyx_core.specs.declared.event.Event.{Event}
use Rattle.pyx_core.specs.declared.event.Event.TheVariants as event
use Rattle.doc_tree.specs.Kinds.{is_element}
use Rattle.doc_tree.specs.Lines.{Line, declares, ends, first_lines, has_attribute, has_comment, has_instruction, has_text, lines, lines_at, starts}
use Rattle.doc_tree.specs.NameTests.{named}
use Rattle.doc_tree.specs.Table.{Content, Table, attribute, comment, content_of, element as element_content, instruction, kind_at, name_at, root, text}
use Rattle.name_scopes.specs.Declarations.{declarations, plain_attrs}
use Rattle.name_scopes.specs.QNames.{local_part}
use Rattle.name_scopes.specs.ScopedTree.{Scoped, attribute_line, said_by, unscoped}
use Rattle.sch_model.specs.declared.flat.FlatPattern.{FlatPattern}
use Rattle.sch_model.specs.declared.flat.FlatRule.{FlatRule}
use Rattle.sch_model.specs.declared.flat.FlatSchema.{FlatSchema}
use Rattle.sch_model.specs.declared.parts.Assertion.{Assertion}
use Rattle.sch_model.specs.declared.parts.Diagnostic.{Diagnostic}
use Rattle.sch_model.specs.declared.parts.Part.{Part}
use Rattle.sch_model.specs.declared.parts.Part.TheVariants.{Chars, ValueOf, Name as NameOf}
use Rattle.sch_model.specs.declared.parts.Phase.{Phase}
use Rattle.sch_rules.specs.Words.{schematron}
use Rattle.sch_flat.specs.FlatDocument.{active_events, assertion_attributes, assertion_events, assertion_name, characters, diagnostics_events, element, flat_events, held_events, let_events, note_events, notes_events, ns_events, part_events, pattern_events, phase_events, rule_attributes, rule_events, title_events}
use Rattle.sch_flat_laws.specs.Readable.{Each}
use Rattle.sch_cli_laws.proofs.MadeLines.{each-append, each-flat, opens-each}
use Rattle.sch_cli_laws.proofs.PlainWalks.{HasNoInclude}

-- a name that is not that of an include
abbrev IsOther : List ℕ → Type 0
IsOther local = bytes_eq local (codes "include") ≡ false

-- an event that begins no include
abbrev PlainEvent : Event → Type 0
PlainEvent (event.Start name attrs) = IsOther (local_part name)
PlainEvent (event.End name) = Unit {0}
PlainEvent (event.Chars characters) = Unit {0}
PlainEvent (event.Pi target body) = Unit {0}
PlainEvent (event.Comment characters) = Unit {0}

abbrev Plain : List Event → Type 0
Plain events = Each PlainEvent events

plain-element : (name : List ℕ) (attributes : List (List ℕ × Option (List ℕ))) (held : List Event) → IsOther (local_part name) → Plain held → Plain (element name attributes held)
plain-element name attributes held is h = (is, each-append PlainEvent held (event.End name ∷ []) h (tt, tt))

plain-characters : (characters-in : List ℕ) → Plain (characters characters-in)
plain-characters [] = tt
plain-characters (b ∷ bytes) = (tt, tt)

-- each part of a schema
plain-phase : (phase : Phase) → Plain (phase_events phase)
plain-phase phase =
    plain-element (codes "sch:phase") ((codes "id", Some phase.id) ∷ []) (flat_map let_events phase.lets ++ flat_map active_events phase.active) refl
    (each-append PlainEvent (flat_map let_events phase.lets) (flat_map active_events phase.active)
    (each-flat PlainEvent let_events (λ decl. (refl, (tt, tt))) phase.lets) (each-flat PlainEvent active_events (λ active. (refl, (tt, tt))) phase.active))

plain-part : (part : Part) → Plain (part_events part)
plain-part (Chars characters-in) = plain-characters characters-in
plain-part (ValueOf node select) = (refl, (tt, tt))
plain-part (NameOf node path) = (refl, (tt, tt))

plain-assertion : (assertion : Assertion) → Plain (assertion_events assertion)
plain-assertion assertion =
    plain-element (assertion_name assertion.report) (assertion_attributes assertion) (flat_map part_events assertion.message)
    (by assertion.report) (each-flat PlainEvent part_events plain-part assertion.message)
  where
    by : (report : Bool) → IsOther (local_part (assertion_name report))
    by true = refl
    by false = refl

plain-rule : (rule : FlatRule) → Plain (rule_events rule)
plain-rule rule =
    plain-element (codes "sch:rule") (rule_attributes rule)
    (flat_map let_events rule.lets ++ flat_map assertion_events rule.assertions) refl
    (each-append PlainEvent (flat_map let_events rule.lets) (flat_map assertion_events rule.assertions)
    (each-flat PlainEvent let_events (λ decl. (refl, (tt, tt))) rule.lets) (each-flat PlainEvent assertion_events plain-assertion rule.assertions))

plain-pattern : (pattern : FlatPattern) → Plain (pattern_events pattern)
plain-pattern pattern =
    plain-element (codes "sch:pattern") ((codes "id", pattern.id) ∷ []) (flat_map let_events pattern.lets ++ flat_map rule_events pattern.rules) refl
    (each-append PlainEvent (flat_map let_events pattern.lets) (flat_map rule_events pattern.rules)
    (each-flat PlainEvent let_events (λ decl. (refl, (tt, tt))) pattern.lets) (each-flat PlainEvent rule_events plain-rule pattern.rules))

-- diagnostics or properties, by the names of their elements
plain-note : (name : List ℕ) → IsOther (local_part name) → (note : Diagnostic) → Plain (note_events name note)
plain-note name is note =
    plain-element name ((codes "id", Some note.id) ∷ []) (flat_map part_events note.message) is (each-flat PlainEvent part_events plain-part note.message)

plain-notes : (group name : List ℕ) → IsOther (local_part group) → IsOther (local_part name) → (notes : List Diagnostic) → Plain (notes_events group name notes)
plain-notes group name holds is [] = tt
plain-notes group name holds is (d ∷ ds) =
    plain-element group [] (flat_map (note_events name) (d ∷ ds)) holds (each-flat PlainEvent (note_events name) (plain-note name is) (d ∷ ds))

plain-title : (title : Option (List ℕ)) → Plain (title_events title)
plain-title None = tt
plain-title (Some title) = plain-element (codes "sch:title") [] (characters title) refl (plain-characters title)

plain-held : (schema : FlatSchema) → Plain (held_events schema)
plain-held schema =
    each-append PlainEvent (title_events schema.head.title) _ (plain-title schema.head.title)
    (each-append PlainEvent (flat_map ns_events schema.ns) _ (each-flat PlainEvent ns_events (λ ns. (refl, (tt, tt))) schema.ns)
    (each-append PlainEvent (flat_map let_events schema.lets) _ (each-flat PlainEvent let_events (λ decl. (refl, (tt, tt))) schema.lets)
    (each-append PlainEvent (flat_map phase_events schema.phases) _ (each-flat PlainEvent phase_events plain-phase schema.phases)
    (each-append PlainEvent (flat_map pattern_events schema.patterns) _ (each-flat PlainEvent pattern_events plain-pattern schema.patterns)
    (each-append PlainEvent (diagnostics_events schema.diagnostics) _ (plain-notes (codes "sch:diagnostics") (codes "sch:diagnostic") refl refl schema.diagnostics)
    (plain-notes (codes "sch:properties") (codes "sch:property") refl refl schema.properties))))))

plain-document : (schema : FlatSchema) → Plain (flat_events schema)
plain-document schema = (refl, each-append PlainEvent (held_events schema) (event.End (codes "sch:schema") ∷ []) (plain-held schema) (tt, tt))

-- a line that begins no include
abbrev PlainLine : Line → Type 0
PlainLine (starts name) = IsOther name.local
PlainLine (declares decl) = Unit {0}
PlainLine (has_attribute name value) = Unit {0}
PlainLine (ends name) = Unit {0}
PlainLine (has_text characters) = Unit {0}
PlainLine (has_comment characters) = Unit {0}
PlainLine (has_instruction name body) = Unit {0}

plain-declares : (decls : List (List ℕ × List ℕ)) → Each PlainLine (map declares decls)
plain-declares [] = tt
plain-declares (d ∷ decls) = (tt, plain-declares decls)

plain-attributes : (attrs : List Attr) → Each PlainLine (map attribute_line attrs)
plain-attributes [] = tt
plain-attributes (a ∷ attrs) = (tt, plain-attributes attrs)

plain-said : (e : Event) → PlainEvent e → Each PlainLine (said_by e)
plain-said (event.Start name attrs) is =
    (is, each-append PlainLine (map declares (declarations attrs)) (map attribute_line (plain_attrs attrs)) (plain-declares (declarations attrs)) (plain-attributes (plain_attrs attrs)))
plain-said (event.End name) is = (tt, tt)
plain-said (event.Chars characters) is = (tt, tt)
plain-said (event.Pi target body) is = (tt, tt)
plain-said (event.Comment characters) is = (tt, tt)

plain-all : (events : List Event) → Plain events → Each PlainLine (flat_map said_by events)
plain-all [] h = tt
plain-all (e ∷ events) h = each-append PlainLine (said_by e) (flat_map said_by events) (plain-said e h.0) (plain-all events h.1)

plain-scoped : (ls : List Line) → Each PlainLine (map unscoped ls) → Each PlainLine ls
plain-scoped [] h = tt
plain-scoped (starts name ∷ ls) h = (h.0, plain-scoped ls h.1)
plain-scoped (declares decl ∷ ls) h = (tt, plain-scoped ls h.1)
plain-scoped (has_attribute name value ∷ ls) h = (tt, plain-scoped ls h.1)
plain-scoped (ends name ∷ ls) h = (tt, plain-scoped ls h.1)
plain-scoped (has_text characters ∷ ls) h = (tt, plain-scoped ls h.1)
plain-scoped (has_comment characters ∷ ls) h = (tt, plain-scoped ls h.1)
plain-scoped (has_instruction name body ∷ ls) h = (tt, plain-scoped ls h.1)

and-false : (a b : Bool) → b ≡ false → (a && b) ≡ false
and-false true b h = h
and-false false b h = refl

no-include-at : (content : Option Content) → Each PlainLine (lines_at first_lines content) →
    (is_element (kind_at content) && named (name_at content) (λ name. bytes_eq name.uri schematron && bytes_eq name.local (codes "include"))) ≡ false
no-include-at None here = refl
no-include-at (Some root) here = refl
no-include-at (Some (element_content name decls)) here = and-false (bytes_eq name.uri schematron) (bytes_eq name.local (codes "include")) here.0
no-include-at (Some (attribute name value)) here = refl
no-include-at (Some (text characters)) here = refl
no-include-at (Some (comment characters)) here = refl
no-include-at (Some (instruction name body)) here = refl

-- the tree of the document of a flat schema
pub no-include : (schema : FlatSchema) (T : Table) → Scoped (flat_events schema) T → HasNoInclude T
no-include schema T scoped n =
    let told : Each PlainLine (map unscoped (lines T)) = subst (Each PlainLine) (sym scoped.lines_are) (plain-all (flat_events schema) (plain-document schema)) in
    no-include-at (content_of T n) (opens-each PlainLine T scoped.numbered (plain-scoped (lines T) told) n)
