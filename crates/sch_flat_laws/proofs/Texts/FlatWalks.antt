-- The document of a schema breaks no rule of names and passes no limit.
use Rattle.std.proofs.Common.{arith, ◌≡◌, ℕ, suc, ◌+◌, ◌≤◌, Bool, true, false, not, List, [], ◌∷◌, ◌++◌, Option, None, Some, is_none, refl, sym, ap, ◌∙◌, subst}
use Rattle.std.proofs.lemmas.Bool.{and_parts, leb-true}
use Rattle.std.specs.Prelude.{codes, nat_le}
use Rattle.std.specs.List.{flat_map, list_any}
use Rattle.pyx_core.specs.declared.event.Attr.{Attr}
use Rattle.pyx_core.specs.declared.event.Event.TheVariants.{End}
use Rattle.pyx_core.specs.declared.mode.Mode.TheVariants.{Document}
use Rattle.pyx_core.specs.Reading.{events_of}
use Rattle.pyx_core.specs.Written.{Gives, text_of}
use Rattle.doc_tree.specs.limits.TheConstants.{MAX_LIVE_NODES}
use Rattle.doc_tree.specs.Scope.{Decl, namespace_in, xml_namespace, xml_prefix, xmlns_prefix}
use Rattle.name_scopes.specs.Declarations.{declaration_of, declarations, has_both_quotes, is_bad_declaration, plain_attrs, xmlns_namespace}
use Rattle.name_scopes.specs.QNames.{prefix_part}
use Rattle.name_scopes.specs.DocFaults.{begin, doc_fault, has_pair, in_scope, lacks_prefix, first_fault, same_expanded, same_qname, tag_nodes}
use Rattle.sch_base.specs.declared.limits.TheConstants.{MAX_TEXT_BYTES}
use Rattle.sch_model.specs.declared.flat.FlatPattern.{FlatPattern}
use Rattle.sch_model.specs.declared.flat.FlatRule.{FlatRule}
use Rattle.sch_model.specs.declared.flat.FlatSchema.{FlatSchema}
use Rattle.sch_model.specs.declared.parts.Active.{Active}
use Rattle.sch_model.specs.declared.parts.Assertion.{Assertion}
use Rattle.sch_model.specs.declared.parts.Diagnostic.{Diagnostic}
use Rattle.sch_model.specs.declared.parts.LetDecl.{LetDecl}
use Rattle.sch_model.specs.declared.parts.Ns.{Ns}
use Rattle.sch_model.specs.declared.parts.Part.{Part}
use Rattle.sch_model.specs.declared.parts.Part.TheVariants.{Chars, ValueOf, Name}
use Rattle.sch_model.specs.declared.parts.Phase.{Phase}
use Rattle.sch_flat.specs.FlatDocument.{active_events, assertion_attributes, assertion_events, assertion_name, characters, diagnostics_events, flat_events, held_events, let_events, note_events, notes_events, ns_events, only_given, part_events, pattern_events, phase_events, rule_attributes, rule_events, title_events}
use Rattle.sch_flat.specs.FlatSize.{bytes_of, is_small, nodes_of}
use Rattle.sch_flat_laws.proofs.Texts.NameLemmas.{Simple, TagFits, has_sch, other_qnames, simple, tag_free}
use Rattle.sch_flat_laws.proofs.Texts.WalkLemmas.{Clean, Goes, Sound, clean_all, clean_append, clean_characters, clean_element, clean_nil, element_goes, no_fault, nodes_append, start_free}

-- each part of a schema, with any number of levels left below it
ns_clean : (levels : ℕ) (ns : Ns) → Clean (suc levels) (ns_events ns)
unfolding xmlns_prefix
ns_clean levels ns =
    clean_element levels (codes "sch:ns") ((codes "prefix", Some ns.prefix) ∷ (codes "uri", Some ns.uri) ∷ []) [] refl refl (clean_nil levels)

let_clean : (levels : ℕ) (decl : LetDecl) → Clean (suc levels) (let_events decl)
unfolding xmlns_prefix
let_clean levels decl =
    clean_element levels (codes "sch:let") ((codes "name", Some decl.name) ∷ (codes "value", Some decl.value) ∷ []) [] refl refl (clean_nil levels)

active_clean : (levels : ℕ) (active : Active) → Clean (suc levels) (active_events active)
unfolding xmlns_prefix
active_clean levels active = clean_element levels (codes "sch:active") ((codes "pattern", Some active.pattern) ∷ []) [] refl refl (clean_nil levels)

phase_clean : (levels : ℕ) (phase : Phase) → Clean (suc (suc levels)) (phase_events phase)
unfolding xmlns_prefix
phase_clean levels phase =
    clean_element (suc levels) (codes "sch:phase") ((codes "id", Some phase.id) ∷ []) (flat_map let_events phase.lets ++ flat_map active_events phase.active) refl refl
    (clean_append (suc levels) (flat_map let_events phase.lets) (flat_map active_events phase.active)
    (clean_all (suc levels) let_events (let_clean levels) phase.lets) (clean_all (suc levels) active_events (active_clean levels) phase.active))

part_clean : (levels : ℕ) (part : Part) → Clean (suc levels) (part_events part)
unfolding xmlns_prefix
part_clean levels (Chars text) = clean_characters (suc levels) text
part_clean levels (ValueOf node select) = clean_element levels (codes "sch:value-of") ((codes "select", Some select) ∷ []) [] refl refl (clean_nil levels)
part_clean levels (Name node path) = clean_element levels (codes "sch:name") ((codes "path", path) ∷ []) [] refl refl (clean_nil levels)

assertion_clean : (levels : ℕ) (assertion : Assertion) → Clean (suc (suc levels)) (assertion_events assertion)
unfolding xmlns_prefix
assertion_clean levels assertion =
    clean_element (suc levels) (assertion_name assertion.report) (assertion_attributes assertion) (flat_map part_events assertion.message)
    (prefixed assertion.report) refl (clean_all (suc levels) part_events (part_clean levels) assertion.message)
  where
    prefixed : (report : Bool) → prefix_part (assertion_name report) ≡ codes "sch"
    prefixed true = refl
    prefixed false = refl

rule_clean : (levels : ℕ) (rule : FlatRule) → Clean (suc (suc (suc levels))) (rule_events rule)
unfolding xmlns_prefix
rule_clean levels rule =
    clean_element (suc (suc levels)) (codes "sch:rule")
    (rule_attributes rule)
    (flat_map let_events rule.lets ++ flat_map assertion_events rule.assertions) refl refl
    (clean_append (suc (suc levels)) (flat_map let_events rule.lets) (flat_map assertion_events rule.assertions)
    (clean_all (suc (suc levels)) let_events (let_clean (suc levels)) rule.lets)
    (clean_all (suc (suc levels)) assertion_events (assertion_clean levels) rule.assertions))

pattern_clean : (levels : ℕ) (pattern : FlatPattern) → Clean (suc (suc (suc (suc levels)))) (pattern_events pattern)
unfolding xmlns_prefix
pattern_clean levels pattern =
    clean_element (suc (suc (suc levels))) (codes "sch:pattern") ((codes "id", pattern.id) ∷ [])
    (flat_map let_events pattern.lets ++ flat_map rule_events pattern.rules) refl refl
    (clean_append (suc (suc (suc levels))) (flat_map let_events pattern.lets) (flat_map rule_events pattern.rules)
    (clean_all (suc (suc (suc levels))) let_events (let_clean (suc (suc levels))) pattern.lets)
    (clean_all (suc (suc (suc levels))) rule_events (rule_clean levels) pattern.rules))

-- diagnostics or properties, by the names of their elements
note_clean : (levels : ℕ) (name : List ℕ) → prefix_part name ≡ codes "sch" → (note : Diagnostic) → Clean (suc (suc levels)) (note_events name note)
unfolding xmlns_prefix
note_clean levels name is note =
    clean_element (suc levels) name ((codes "id", Some note.id) ∷ []) (flat_map part_events note.message) is refl
    (clean_all (suc levels) part_events (part_clean levels) note.message)

notes_clean : (levels : ℕ) (group name : List ℕ) → prefix_part group ≡ codes "sch" → prefix_part name ≡ codes "sch" → (notes : List Diagnostic) →
    Clean (suc (suc (suc levels))) (notes_events group name notes)
unfolding xmlns_prefix
notes_clean levels group name holds is [] = clean_nil (suc (suc (suc levels)))
notes_clean levels group name holds is (d ∷ ds) =
    clean_element (suc (suc levels)) group [] (flat_map (note_events name) (d ∷ ds)) holds refl
    (clean_all (suc (suc levels)) (note_events name) (note_clean levels name is) (d ∷ ds))

title_clean : (levels : ℕ) (title : Option (List ℕ)) → Clean (suc levels) (title_events title)
unfolding xmlns_prefix
title_clean levels None = clean_nil (suc levels)
title_clean levels (Some title) = clean_element levels (codes "sch:title") [] (characters title) refl refl (clean_characters levels title)

-- what the document element holds, with four levels
held_clean : (schema : FlatSchema) → Clean 4 (held_events schema)
unfolding xmlns_prefix
held_clean schema =
    clean_append 4 (title_events schema.head.title) _ (title_clean 3 schema.head.title)
    (clean_append 4 (flat_map ns_events schema.ns) _ (clean_all 4 ns_events (ns_clean 3) schema.ns)
    (clean_append 4 (flat_map let_events schema.lets) _ (clean_all 4 let_events (let_clean 3) schema.lets)
    (clean_append 4 (flat_map phase_events schema.phases) _ (clean_all 4 phase_events (phase_clean 2) schema.phases)
    (clean_append 4 (flat_map pattern_events schema.patterns) _ (clean_all 4 pattern_events (pattern_clean 0) schema.patterns)
    (clean_append 4 (diagnostics_events schema.diagnostics) _ (notes_clean 1 (codes "sch:diagnostics") (codes "sch:diagnostic") refl refl schema.diagnostics)
    (notes_clean 1 (codes "sch:properties") (codes "sch:property") refl refl schema.properties))))))

-- the attribute of the document element that declares the prefix
abbrev declaring : Attr
declaring = record { name = codes "xmlns:sch"; value = codes "http://purl.oclc.org/dsdl/schematron" }

abbrev declared : Decl
declared = (codes "sch", codes "http://purl.oclc.org/dsdl/schematron")

abbrev rest_of : FlatSchema → List (List ℕ × Option (List ℕ))
rest_of schema =
    (codes "queryBinding", Some (codes "xslt"))
    ∷ (codes "schemaVersion", schema.head.schema_version)
    ∷ (codes "defaultPhase", schema.head.default_phase) ∷ []

abbrev attributes_of : FlatSchema → List (List ℕ × Option (List ℕ))
attributes_of schema = (codes "xmlns:sch", Some (codes "http://purl.oclc.org/dsdl/schematron")) ∷ rest_of schema

rest_simple : (schema : FlatSchema) → Simple (rest_of schema)
unfolding xmlns_prefix
rest_simple schema = simple (rest_of schema) refl

declares : declaration_of declaring ≡ Some declared
unfolding xmlns_prefix
declares = refl

may_be : is_bad_declaration declared ≡ false
unfolding xmlns_prefix xml_prefix xml_namespace xmlns_namespace
may_be = refl

in_literals : has_both_quotes declared ≡ false
in_literals = refl

sch_found : namespace_in (declared ∷ []) (codes "sch") ≡ Some (codes "http://purl.oclc.org/dsdl/schematron")
unfolding xmlns_prefix xml_prefix
sch_found = refl

declarations_are : (schema : FlatSchema) → declarations (only_given (attributes_of schema)) ≡ declared ∷ []
declarations_are schema = rw declares (ap (λ ds. declared ∷ ds) (rest_simple schema).nothing_declared)

plain_are : (schema : FlatSchema) → plain_attrs (only_given (attributes_of schema)) ≡ only_given (rest_of schema)
plain_are schema = rw declares (rest_simple schema).all_plain

qnames_differ : (schema : FlatSchema) → has_pair same_qname (only_given (attributes_of schema)) ≡ false
qnames_differ schema = rw (other_qnames declaring (rest_of schema) refl) (rest_simple schema).qnames

schema_fits : (schema : FlatSchema) → TagFits (in_scope (declarations (only_given (attributes_of schema)) ∷ [])) (codes "sch:schema") (only_given (attributes_of schema))
schema_fits schema =
    let scope = in_scope (declarations (only_given (attributes_of schema)) ∷ []) in
    record {
      declared = ap (λ ds. is_none (namespace_in (in_scope (ds ∷ [])) (codes "sch"))) (declarations_are schema) ∙ ap is_none sch_found;
      prefixes = ap (list_any (lacks_prefix scope)) (plain_are schema) ∙ (rest_simple schema).prefixes scope;
      qnames = qnames_differ schema;
      names = ap (has_pair (same_expanded scope)) (plain_are schema) ∙ (rest_simple schema).names scope;
      good = ap (list_any is_bad_declaration) (declarations_are schema) ∙ rw may_be refl;
      quoted = ap (list_any has_both_quotes) (declarations_are schema) ∙ rw in_literals refl;
    }

-- the whole document, below the root
flat_goes : (schema : FlatSchema) → suc (nodes_of (flat_events schema)) ≤ MAX_LIVE_NODES → Goes [] 1 (flat_events schema)
flat_goes schema few =
    let attrs = only_given (attributes_of schema) in
    let count = nodes_append (held_events schema) (End (codes "sch:schema") ∷ []) in
    let found : has_sch (in_scope (declarations attrs ∷ [])) ≡ true =
    ap (λ ds. has_sch (in_scope (ds ∷ []))) (declarations_are schema) ∙ ap (λ o. not (is_none o)) sch_found in
    element_goes [] 1 (codes "sch:schema") (attributes_of schema) (held_events schema)
    (start_free [] 1 (codes "sch:schema") (attributes_of schema) (tag_free _ (codes "sch:schema") attrs (schema_fits schema)) (omega arith) (omega (arith, few)))
    ((held_clean schema).goes (declarations attrs ∷ []) (1 + tag_nodes attrs) found (omega arith) (omega (arith, few, count)))

-- its text
pub flat_text_free : (schema : FlatSchema) → Gives Document (text_of (flat_events schema)) (flat_events schema) → is_small schema ≡ true →
    doc_fault (text_of (flat_events schema)) ≡ None
flat_text_free schema gives small =
    let text = text_of (flat_events schema) in
    let few = (and_parts (nat_le (bytes_of (flat_events schema)) MAX_TEXT_BYTES) (nat_le (suc (nodes_of (flat_events schema))) MAX_LIVE_NODES) small).1 in
    let goes = flat_goes schema (leb-true (suc (nodes_of (flat_events schema))) MAX_LIVE_NODES few) in
    let free : first_fault begin (events_of Document text) ≡ None =
    no_fault begin (events_of Document text) (subst (Sound begin) (sym gives.events_are) goes.sound) in
    rw gives.good (rw free refl)
