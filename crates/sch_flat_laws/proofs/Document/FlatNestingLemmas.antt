-- The document of a schema nests.
use Rattle.std.proofs.Common.{◌≡◌, Bool, true, false, List, [], ◌∷◌, ◌++◌, Option, None, Some, ℕ, refl}
use Rattle.std.specs.Prelude.{codes}
use Rattle.std.specs.List.{flat_map, list_all}
use Rattle.std.proofs.lemmas.Bool.{and_from}
use Rattle.pyx_core.specs.declared.event.Event.{Event}
use Rattle.pyx_core.specs.declared.mode.Mode.TheVariants.{Document}
use Rattle.pyx_core.specs.Nesting.{Nest, IsEnd, is_name, place_after, start}
use Rattle.sch_base.specs.Characters.{is_name_char, is_name_start, is_xml_char}
use Rattle.sch_base.specs.Names.{QNamesSplit}
use Rattle.sch_model.specs.declared.flat.FlatPattern.{FlatPattern}
use Rattle.sch_model.specs.declared.flat.FlatRule.{FlatRule}
use Rattle.sch_model.specs.declared.flat.FlatSchema.{FlatSchema}
use Rattle.sch_model.specs.declared.parts.Active.{Active}
use Rattle.sch_model.specs.declared.parts.Assertion.{Assertion}
use Rattle.sch_model.specs.declared.parts.Diagnostic.{Diagnostic}
use Rattle.sch_model.specs.declared.parts.LetDecl.{LetDecl}
use Rattle.sch_model.specs.declared.parts.Ns.{Ns}
use Rattle.sch_model.specs.declared.parts.Part.{Part}
use Rattle.sch_model.specs.declared.parts.Part.TheVariants.{Chars, ValueOf, Name}
use Rattle.sch_model.specs.declared.parts.Phase.{Phase}
use Rattle.sch_flat.specs.FlatDocument.{active_events, assertion_attributes, assertion_events, assertion_name, characters, diagnostics_events, element, flat_events, held_events, let_events, note_events, notes_events, ns_events, part_events, pattern_events, phase_events, properties_events, rule_attributes, rule_events, title_events}
use Rattle.sch_flat_laws.specs.FlatText.{are_apart, is_made}
use Rattle.sch_flat_laws.proofs.Document.NameLemmas.{names_fit, prefixed_named, spells}
use Rattle.sch_flat_laws.proofs.Document.NestingLemmas.{Inside, document_nests, inside_all, inside_append, inside_characters, inside_element, inside_nil}

module _ (splits : QNamesSplit) where
  -- an element of the namespace
  named : (local : List ℕ) (attributes : List (List ℕ × Option (List ℕ))) (held : List Event) → spells local ≡ true →
      list_all (λ a. spells a.0) attributes ≡ true → Inside held → Inside (element (codes "sch" ++ 58 ∷ local) attributes held)
  unfolding is_xml_char is_name_start is_name_char
  named local attributes held is are inside =
      inside_element (codes "sch" ++ 58 ∷ local) attributes held (prefixed_named splits (codes "sch") local refl is) (names_fit splits attributes are) inside

  ns_nests : (ns : Ns) → Inside (ns_events ns)
  unfolding is_xml_char is_name_start is_name_char
  ns_nests ns = named (codes "ns") ((codes "prefix", Some ns.prefix) ∷ (codes "uri", Some ns.uri) ∷ []) [] refl refl inside_nil

  let_nests : (decl : LetDecl) → Inside (let_events decl)
  unfolding is_xml_char is_name_start is_name_char
  let_nests decl = named (codes "let") ((codes "name", Some decl.name) ∷ (codes "value", Some decl.value) ∷ []) [] refl refl inside_nil

  active_nests : (active : Active) → Inside (active_events active)
  unfolding is_xml_char is_name_start is_name_char
  active_nests active = named (codes "active") ((codes "pattern", Some active.pattern) ∷ []) [] refl refl inside_nil

  phase_nests : (phase : Phase) → Inside (phase_events phase)
  unfolding is_xml_char is_name_start is_name_char
  phase_nests phase =
      named (codes "phase") ((codes "id", Some phase.id) ∷ []) (flat_map let_events phase.lets ++ flat_map active_events phase.active) refl refl
      (inside_append (flat_map let_events phase.lets) (flat_map active_events phase.active)
      (inside_all let_events let_nests phase.lets) (inside_all active_events active_nests phase.active))

  part_nests : (part : Part) → Inside (part_events part)
  unfolding is_xml_char is_name_start is_name_char
  part_nests (Chars text) = inside_characters text
  part_nests (ValueOf node select) = named (codes "value-of") ((codes "select", Some select) ∷ []) [] refl refl inside_nil
  part_nests (Name node path) = named (codes "name") ((codes "path", path) ∷ []) [] refl refl inside_nil

  assertion-named : (report : Bool) → is_name (assertion_name report) ≡ true
  unfolding is_xml_char is_name_start is_name_char
  assertion-named true = prefixed_named splits (codes "sch") (codes "report") refl refl
  assertion-named false = prefixed_named splits (codes "sch") (codes "assert") refl refl

  assertion_nests : (assertion : Assertion) → Inside (assertion_events assertion)
  unfolding is_xml_char is_name_start is_name_char
  assertion_nests assertion =
      inside_element (assertion_name assertion.report) (assertion_attributes assertion) (flat_map part_events assertion.message)
      (assertion-named assertion.report) (names_fit splits (assertion_attributes assertion) refl) (inside_all part_events part_nests assertion.message)

  rule_nests : (rule : FlatRule) → Inside (rule_events rule)
  unfolding is_xml_char is_name_start is_name_char
  rule_nests rule =
      named (codes "rule") (rule_attributes rule)
      (flat_map let_events rule.lets ++ flat_map assertion_events rule.assertions) refl refl
      (inside_append (flat_map let_events rule.lets) (flat_map assertion_events rule.assertions)
      (inside_all let_events let_nests rule.lets) (inside_all assertion_events assertion_nests rule.assertions))

  pattern_nests : (pattern : FlatPattern) → Inside (pattern_events pattern)
  unfolding is_xml_char is_name_start is_name_char
  pattern_nests pattern =
      named (codes "pattern") ((codes "id", pattern.id) ∷ []) (flat_map let_events pattern.lets ++ flat_map rule_events pattern.rules) refl refl
      (inside_append (flat_map let_events pattern.lets) (flat_map rule_events pattern.rules)
      (inside_all let_events let_nests pattern.lets) (inside_all rule_events rule_nests pattern.rules))

  -- diagnostics or properties, by their local names
  note_nests : (local : List ℕ) → spells local ≡ true → (note : Diagnostic) → Inside (note_events (codes "sch" ++ 58 ∷ local) note)
  unfolding is_xml_char is_name_start is_name_char
  note_nests local is note =
      named local ((codes "id", Some note.id) ∷ []) (flat_map part_events note.message) is refl (inside_all part_events part_nests note.message)

  notes_nest : (group local : List ℕ) → spells group ≡ true → spells local ≡ true → (notes : List Diagnostic) →
      Inside (notes_events (codes "sch" ++ 58 ∷ group) (codes "sch" ++ 58 ∷ local) notes)
  notes_nest group local holds is [] = inside_nil
  notes_nest group local holds is (d ∷ ds) =
      named group [] (flat_map (note_events (codes "sch" ++ 58 ∷ local)) (d ∷ ds)) holds refl
      (inside_all (note_events (codes "sch" ++ 58 ∷ local)) (note_nests local is) (d ∷ ds))

  diagnostics_nest : (diagnostics : List Diagnostic) → Inside (diagnostics_events diagnostics)
  unfolding is_xml_char is_name_start is_name_char
  diagnostics_nest diagnostics = notes_nest (codes "diagnostics") (codes "diagnostic") refl refl diagnostics

  properties_nest : (properties : List Diagnostic) → Inside (properties_events properties)
  unfolding is_xml_char is_name_start is_name_char
  properties_nest properties = notes_nest (codes "properties") (codes "property") refl refl properties

  title_nests : (title : Option (List ℕ)) → Inside (title_events title)
  unfolding is_xml_char is_name_start is_name_char
  title_nests None = inside_nil
  title_nests (Some title) = named (codes "title") [] (characters title) refl refl (inside_characters title)

  held_nests : (schema : FlatSchema) → Inside (held_events schema)
  held_nests schema =
      inside_append (title_events schema.head.title) _ (title_nests schema.head.title)
      (inside_append (flat_map ns_events schema.ns) _ (inside_all ns_events ns_nests schema.ns)
      (inside_append (flat_map let_events schema.lets) _ (inside_all let_events let_nests schema.lets)
      (inside_append (flat_map phase_events schema.phases) _ (inside_all phase_events phase_nests schema.phases)
      (inside_append (flat_map pattern_events schema.patterns) _ (inside_all pattern_events pattern_nests schema.patterns)
      (inside_append (diagnostics_events schema.diagnostics) _ (diagnostics_nest schema.diagnostics) (properties_nest schema.properties))))))

  abbrev rest_of : FlatSchema → List (List ℕ × Option (List ℕ))
  rest_of schema =
      (codes "queryBinding", Some (codes "xslt"))
      ∷ (codes "schemaVersion", schema.head.schema_version)
      ∷ (codes "defaultPhase", schema.head.default_phase) ∷ []

  pub schema_nests : (schema : FlatSchema) → list_all is_made (flat_events schema) ≡ true → are_apart false (flat_events schema) ≡ true →
      Nest Document start (flat_events schema) × IsEnd (place_after Document start (flat_events schema))
  unfolding is_xml_char is_name_start is_name_char
  schema_nests schema =
      document_nests (codes "sch:schema")
      ((codes "xmlns:sch", Some (codes "http://purl.oclc.org/dsdl/schematron"))
      ∷ (codes "queryBinding", Some (codes "xslt"))
      ∷ (codes "schemaVersion", schema.head.schema_version)
      ∷ (codes "defaultPhase", schema.head.default_phase) ∷ [])
      (held_events schema)
      (prefixed_named splits (codes "sch") (codes "schema") refl refl)
      (and_from (is_name (codes "xmlns:sch"))
      (list_all (λ a. is_name a.0) (rest_of schema))
      (prefixed_named splits (codes "xmlns") (codes "sch") refl refl)
      (names_fit splits (rest_of schema) refl))
      (held_nests schema)
