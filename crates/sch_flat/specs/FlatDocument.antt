-- The document of a schema without abstract parts, as the events of its text: the elements of Schematron (ISO/IEC
-- 19757-3:2016, section 5.4 and annex A) in one fixed order, with attributes in one fixed order and only where given, and
-- with no text but that of messages and titles.
use Rattle.std.specs.Prelude.{ℕ, Bool, List, [], ◌∷◌, ◌++◌, Option, None, Some, codes, if◌then◌else◌}
use Rattle.std.specs.List.{flat_map}
use Rattle.pyx_core.specs.declared.event.Attr.{Attr}
use Rattle.pyx_core.specs.declared.event.Event.{Event}
use Rattle.pyx_core.specs.declared.event.Event.TheVariants as event
use Rattle.sch_model.specs.declared.flat.FlatPattern.{FlatPattern}
use Rattle.sch_model.specs.declared.flat.FlatRule.{FlatRule}
use Rattle.sch_model.specs.declared.flat.FlatSchema.{FlatSchema}
use Rattle.sch_model.specs.declared.parts.Active.{Active}
use Rattle.sch_model.specs.declared.parts.Assertion.{Assertion}
use Rattle.sch_model.specs.declared.parts.Diagnostic.{Diagnostic}
use Rattle.sch_model.specs.declared.parts.LetDecl.{LetDecl}
use Rattle.sch_model.specs.declared.parts.Ns.{Ns}
use Rattle.sch_model.specs.declared.parts.Part.{Part}
use Rattle.sch_model.specs.declared.parts.Part.TheVariants.{Chars, ValueOf, Name}
use Rattle.sch_model.specs.declared.parts.Phase.{Phase}
use Rattle.sch_texts.specs.Ids.{id_list}

-- attributes with these names, in this order, and only where a value is given
abbrev pub only_given : List (List ℕ × Option (List ℕ)) → List Attr
only_given [] = []
only_given ((name, None) ∷ attributes) = only_given attributes
only_given ((name, Some value) ∷ attributes) = record { name = name; value = value } ∷ only_given attributes

-- an element of this name, with its attributes and what it holds
abbrev pub element : List ℕ → List (List ℕ × Option (List ℕ)) → List Event → List Event
element name attributes held = event.Start name (only_given attributes) ∷ (held ++ event.End name ∷ [])

-- characters, where there are some
abbrev pub characters : List ℕ → List Event
characters [] = []
characters (byte ∷ text) = event.Chars (byte ∷ text) ∷ []

abbrev pub ns_events : Ns → List Event
ns_events ns = element (codes "sch:ns") ((codes "prefix", Some ns.prefix) ∷ (codes "uri", Some ns.uri) ∷ []) []

abbrev pub let_events : LetDecl → List Event
let_events decl = element (codes "sch:let") ((codes "name", Some decl.name) ∷ (codes "value", Some decl.value) ∷ []) []

abbrev pub active_events : Active → List Event
active_events active = element (codes "sch:active") ((codes "pattern", Some active.pattern) ∷ []) []

abbrev pub phase_events : Phase → List Event
phase_events phase = element (codes "sch:phase") ((codes "id", Some phase.id) ∷ [])
    (flat_map let_events phase.lets ++ flat_map active_events phase.active)

-- a part of a message
abbrev pub part_events : Part → List Event
part_events (Chars text) = characters text
part_events (ValueOf node select) = element (codes "sch:value-of") ((codes "select", Some select) ∷ []) []
part_events (Name node path) = element (codes "sch:name") ((codes "path", path) ∷ []) []

abbrev pub assertion_name : Bool → List ℕ
assertion_name report = if report then codes "sch:report" else codes "sch:assert"

abbrev pub assertion_attributes : Assertion → List (List ℕ × Option (List ℕ))
assertion_attributes assertion =
    (codes "id", assertion.id)
    ∷ (codes "test", Some assertion.test)
    ∷ (codes "subject", assertion.subject)
    ∷ (codes "role", assertion.role)
    ∷ (codes "flag", assertion.flag)
    ∷ (codes "diagnostics", id_list assertion.diagnostics)
    ∷ (codes "properties", id_list assertion.properties) ∷ []

abbrev pub assertion_events : Assertion → List Event
assertion_events assertion =
    element (assertion_name assertion.report) (assertion_attributes assertion) (flat_map part_events assertion.message)

abbrev pub rule_attributes : FlatRule → List (List ℕ × Option (List ℕ))
rule_attributes rule =
    (codes "id", rule.id)
    ∷ (codes "context", Some rule.context)
    ∷ (codes "subject", rule.subject)
    ∷ (codes "role", rule.role)
    ∷ (codes "flag", rule.flag) ∷ []

abbrev pub rule_events : FlatRule → List Event
rule_events rule = element (codes "sch:rule") (rule_attributes rule)
    (flat_map let_events rule.lets ++ flat_map assertion_events rule.assertions)

abbrev pub pattern_events : FlatPattern → List Event
pattern_events pattern = element (codes "sch:pattern") ((codes "id", pattern.id) ∷ [])
    (flat_map let_events pattern.lets ++ flat_map rule_events pattern.rules)

-- a diagnostic or a property, as an element of this name
abbrev pub note_events : List ℕ → Diagnostic → List Event
note_events name note = element name ((codes "id", Some note.id) ∷ []) (flat_map part_events note.message)

-- all of them as elements of a name, in an element of another name where there is one
abbrev pub notes_events : List ℕ → List ℕ → List Diagnostic → List Event
notes_events group name [] = []
notes_events group name (note ∷ notes) = element group [] (flat_map (note_events name) (note ∷ notes))

abbrev pub diagnostics_events : List Diagnostic → List Event
diagnostics_events diagnostics = notes_events (codes "sch:diagnostics") (codes "sch:diagnostic") diagnostics

abbrev pub properties_events : List Diagnostic → List Event
properties_events properties = notes_events (codes "sch:properties") (codes "sch:property") properties

-- the title, where there is one
abbrev pub title_events : Option (List ℕ) → List Event
title_events None = []
title_events (Some title) = element (codes "sch:title") [] (characters title)

-- what the document element holds
abbrev pub held_events : FlatSchema → List Event
held_events schema = title_events schema.head.title
    ++ (flat_map ns_events schema.ns
    ++ (flat_map let_events schema.lets
    ++ (flat_map phase_events schema.phases
    ++ (flat_map pattern_events schema.patterns
    ++ (diagnostics_events schema.diagnostics
    ++ properties_events schema.properties)))))

-- the document of a schema
abbrev pub flat_events : FlatSchema → List Event
flat_events schema = element (codes "sch:schema")
    ((codes "xmlns:sch", Some (codes "http://purl.oclc.org/dsdl/schematron"))
    ∷ (codes "queryBinding", Some (codes "xslt"))
    ∷ (codes "schemaVersion", schema.head.schema_version)
    ∷ (codes "defaultPhase", schema.head.default_phase) ∷ [])
    (held_events schema)
