-- What doesn't depend on the places of a schema's parts: its document, its size, and whether it is concrete.
use Rattle.std.proofs.Common.{◌≡◌, ℕ, suc, ◌+◌, Bool, not, ◌&&◌, List, [], ◌∷◌, ◌++◌, Option, Some, length, map, length-append, refl, sym, ap, ap₂, ◌∙◌}
use Rattle.std.specs.List.{flat_map}
use Rattle.std.specs.Prelude.{codes, nat_le, nat_lt}
use Rattle.std.proofs.lemmas.List.{length-map}
use Rattle.doc_tree.specs.limits.TheConstants.{MAX_LIVE_NODES}
use Rattle.pyx_core.specs.declared.event.Event.{Event}
use Rattle.sch_base.specs.declared.limits.TheConstants.{MAX_ASSERTIONS, MAX_LETS, MAX_RULES, MAX_TEXT_BYTES}
use Rattle.sch_model.specs.declared.flat.FlatPattern.{FlatPattern}
use Rattle.sch_model.specs.declared.flat.FlatRule.{FlatRule}
use Rattle.sch_model.specs.declared.flat.FlatSchema.{FlatSchema}
use Rattle.sch_model.specs.declared.parts.Assertion.{Assertion}
use Rattle.sch_model.specs.declared.parts.Diagnostic.{Diagnostic}
use Rattle.sch_model.specs.declared.parts.LetDecl.{LetDecl}
use Rattle.sch_model.specs.declared.parts.Part.{Part}
use Rattle.sch_model.specs.declared.parts.Part.TheVariants.{Chars, ValueOf, Name}
use Rattle.sch_model.specs.declared.parts.Phase.{Phase}
use Rattle.sch_rules.specs.Rules.{name_if}
use Rattle.sch_sizes.specs.Sizes.{all_assertions, all_lets, all_rules, pattern_lets, size_rules}
use Rattle.sch_flat.specs.FlatDocument.{active_events, assertion_attributes, assertion_events, assertion_name, diagnostics_events, element, flat_events, let_events, note_events, notes_events, ns_events, part_events, pattern_events, phase_events, properties_events, rule_attributes, rule_events, title_events}
use Rattle.sch_flat.specs.FlatSize.{bytes_of, is_small, nodes_of}
use Rattle.sch_model.specs.Placeless.{placeless_active, placeless_assertion, placeless_diagnostic, placeless_flat, placeless_flat_pattern, placeless_flat_rule, placeless_let, placeless_ns, placeless_part, placeless_phase}
use Rattle.sch_flat_laws.proofs.Reading.TreeBlocks.{map_append}

-- what is the same of each item
pub same_over : {A B : Type 0} (f : A → List B) (forget : A → A) → ((x : A) → f (forget x) ≡ f x) → (xs : List A) → flat_map f (map forget xs) ≡ flat_map f xs
same_over f forget same [] = refl
same_over f forget same (x ∷ xs) = ap₂ (λ l m. l ++ m) (same x) (same_over f forget same xs)

-- the document
part-same : (part : Part) → part_events (placeless_part part) ≡ part_events part
part-same (Chars characters) = refl
part-same (ValueOf node select) = refl
part-same (Name node path) = refl

assertion-same : (a : Assertion) → assertion_events (placeless_assertion a) ≡ assertion_events a
assertion-same a = ap (element (assertion_name a.report) (assertion_attributes a)) (same_over part_events placeless_part part-same a.message)

note-same : (name : List ℕ) (d : Diagnostic) → note_events name (placeless_diagnostic d) ≡ note_events name d
note-same name d = ap (element name ((codes "id", Some d.id) ∷ [])) (same_over part_events placeless_part part-same d.message)

lets-same : (lets : List LetDecl) → flat_map let_events (map placeless_let lets) ≡ flat_map let_events lets
lets-same lets = same_over let_events placeless_let (λ decl. refl) lets

rule-same : (rule : FlatRule) → rule_events (placeless_flat_rule rule) ≡ rule_events rule
rule-same rule =
    ap₂ (λ lets assertions. element (codes "sch:rule") (rule_attributes rule) (lets ++ assertions))
    (lets-same rule.lets) (same_over assertion_events placeless_assertion assertion-same rule.assertions)

pattern-same : (pattern : FlatPattern) → pattern_events (placeless_flat_pattern pattern) ≡ pattern_events pattern
pattern-same pattern =
    ap₂ (λ lets rules. element (codes "sch:pattern") ((codes "id", pattern.id) ∷ []) (lets ++ rules))
    (lets-same pattern.lets) (same_over rule_events placeless_flat_rule rule-same pattern.rules)

phase-same : (phase : Phase) → phase_events (placeless_phase phase) ≡ phase_events phase
phase-same phase =
    ap₂ (λ lets active. element (codes "sch:phase") ((codes "id", Some phase.id) ∷ []) (lets ++ active))
    (lets-same phase.lets) (same_over active_events placeless_active (λ active. refl) phase.active)

notes-same : (group name : List ℕ) (ds : List Diagnostic) → notes_events group name (map placeless_diagnostic ds) ≡ notes_events group name ds
notes-same group name [] = refl
notes-same group name (d ∷ ds) = ap (element group []) (same_over (note_events name) placeless_diagnostic (note-same name) (d ∷ ds))

document-with : FlatSchema → List Event → List Event → List Event → List Event → List Event → List Event
document-with schema ns lets phases patterns notes =
    element (codes "sch:schema")
    ((codes "xmlns:sch", Some (codes "http://purl.oclc.org/dsdl/schematron"))
    ∷ (codes "queryBinding", Some (codes "xslt"))
    ∷ (codes "schemaVersion", schema.head.schema_version)
    ∷ (codes "defaultPhase", schema.head.default_phase) ∷ [])
    (title_events schema.head.title ++ (ns ++ (lets ++ (phases ++ (patterns ++ notes)))))

pub document_same : (schema : FlatSchema) → flat_events (placeless_flat schema) ≡ flat_events schema
unfolding document-with
document_same schema =
    let ns = same_over ns_events placeless_ns (λ x. refl) schema.ns in
    let lets = lets-same schema.lets in
    let phases = same_over phase_events placeless_phase phase-same schema.phases in
    let patterns = same_over pattern_events placeless_flat_pattern pattern-same schema.patterns in
    let properties_after = properties_events (map placeless_diagnostic schema.properties) in
    let notes =
    ap (λ l. l ++ properties_after) (notes-same (codes "sch:diagnostics") (codes "sch:diagnostic") schema.diagnostics)
    ∙ ap (λ l. diagnostics_events schema.diagnostics ++ l) (notes-same (codes "sch:properties") (codes "sch:property") schema.properties) in
    ap (λ x. document-with schema x (flat_map let_events (map placeless_let schema.lets)) (flat_map phase_events (map placeless_phase schema.phases))
    (flat_map pattern_events (map placeless_flat_pattern schema.patterns)) (diagnostics_events (map placeless_diagnostic schema.diagnostics) ++ properties_after)) ns
    ∙ ap (λ x. document-with schema (flat_map ns_events schema.ns) x (flat_map phase_events (map placeless_phase schema.phases))
    (flat_map pattern_events (map placeless_flat_pattern schema.patterns)) (diagnostics_events (map placeless_diagnostic schema.diagnostics) ++ properties_after)) lets
    ∙ ap (λ x. document-with schema (flat_map ns_events schema.ns) (flat_map let_events schema.lets) x
    (flat_map pattern_events (map placeless_flat_pattern schema.patterns)) (diagnostics_events (map placeless_diagnostic schema.diagnostics) ++ properties_after)) phases
    ∙ ap (λ x. document-with schema (flat_map ns_events schema.ns) (flat_map let_events schema.lets) (flat_map phase_events schema.phases) x
    (diagnostics_events (map placeless_diagnostic schema.diagnostics) ++ properties_after)) patterns
    ∙ ap (document-with schema (flat_map ns_events schema.ns) (flat_map let_events schema.lets) (flat_map phase_events schema.phases) (flat_map pattern_events schema.patterns)) notes

-- the counts
count-same : {A B : Type 0} (f : A → List B) (forget : A → A) → ((x : A) → length (f (forget x)) ≡ length (f x)) → (xs : List A) → length (flat_map f (map forget xs)) ≡ length (flat_map f xs)
count-same f forget same [] = refl
count-same f forget same (x ∷ xs) =
    length-append (f (forget x)) (flat_map f (map forget xs)) ∙ ap₂ (λ m n. m + n) (same x) (count-same f forget same xs) ∙ sym (length-append (f x) (flat_map f xs))

inner-map : {A B : Type 0} (f : A → List B) (forget : A → A) (drop : B → B) → ((x : A) → f (forget x) ≡ map drop (f x)) → (xs : List A) → flat_map f (map forget xs) ≡ map drop (flat_map f xs)
inner-map f forget drop same [] = refl
inner-map f forget drop same (x ∷ xs) = ap₂ (λ l m. l ++ m) (same x) (inner-map f forget drop same xs) ∙ sym (map_append drop (f x) (flat_map f xs))

rules-same : (schema : FlatSchema) → all_rules (placeless_flat schema) ≡ map placeless_flat_rule (all_rules schema)
rules-same schema = inner-map (λ (pattern : FlatPattern). pattern.rules) placeless_flat_pattern placeless_flat_rule (λ pattern. refl) schema.patterns

assertions-count : (schema : FlatSchema) → length (all_assertions (placeless_flat schema)) ≡ length (all_assertions schema)
assertions-count schema =
    ap (λ l. length (flat_map (λ (rule : FlatRule). rule.assertions) l)) (rules-same schema)
    ∙ count-same (λ (rule : FlatRule). rule.assertions) placeless_flat_rule (λ rule. length-map rule.assertions placeless_assertion) (all_rules schema)

pattern-lets-count : (pattern : FlatPattern) → length (pattern_lets (placeless_flat_pattern pattern)) ≡ length (pattern_lets pattern)
pattern-lets-count pattern =
    length-append (map placeless_let pattern.lets) (flat_map (λ (rule : FlatRule). rule.lets) (map placeless_flat_rule pattern.rules))
    ∙ ap₂ (λ m n. m + n) (length-map pattern.lets placeless_let)
    (count-same (λ (rule : FlatRule). rule.lets) placeless_flat_rule (λ rule. length-map rule.lets placeless_let) pattern.rules)
    ∙ sym (length-append pattern.lets (flat_map (λ (rule : FlatRule). rule.lets) pattern.rules))

lets-count : (schema : FlatSchema) → length (all_lets (placeless_flat schema)) ≡ length (all_lets schema)
lets-count schema =
    let phases = flat_map (λ (phase : Phase). phase.lets) in
    length-append (map placeless_let schema.lets) (phases (map placeless_phase schema.phases) ++ flat_map pattern_lets (map placeless_flat_pattern schema.patterns))
    ∙ ap₂ (λ m n. m + n) (length-map schema.lets placeless_let)
    (length-append (phases (map placeless_phase schema.phases)) (flat_map pattern_lets (map placeless_flat_pattern schema.patterns))
    ∙ ap₂ (λ m n. m + n) (count-same (λ (phase : Phase). phase.lets) placeless_phase (λ phase. length-map phase.lets placeless_let) schema.phases)
    (count-same pattern_lets placeless_flat_pattern pattern-lets-count schema.patterns)
    ∙ sym (length-append (phases schema.phases) (flat_map pattern_lets schema.patterns)))
    ∙ sym (length-append schema.lets (phases schema.phases ++ flat_map pattern_lets schema.patterns))

small-same : (schema : FlatSchema) → is_small (placeless_flat schema) ≡ is_small schema
small-same schema = ap (λ events. nat_le (bytes_of events) MAX_TEXT_BYTES && nat_le (suc (nodes_of events)) MAX_LIVE_NODES) (document_same schema)

rules-with : ℕ → ℕ → ℕ → Bool → List (ℕ × Option (List ℕ))
rules-with rules assertions lets small = (16, name_if (nat_lt MAX_RULES rules) (codes "4096"))
    ∷ (17, name_if (nat_lt MAX_ASSERTIONS assertions) (codes "16384"))
    ∷ (18, name_if (nat_lt MAX_LETS lets) (codes "1024"))
    ∷ (19, name_if (not small) (codes "16777216"))
    ∷ []

pub sizes_same : (schema : FlatSchema) → size_rules (placeless_flat schema) ≡ size_rules schema
unfolding rules-with
sizes_same schema =
    ap (λ n. rules-with n (length (all_assertions (placeless_flat schema))) (length (all_lets (placeless_flat schema))) (is_small (placeless_flat schema)))
    (ap length (rules-same schema) ∙ length-map (all_rules schema) placeless_flat_rule)
    ∙ ap (λ n. rules-with (length (all_rules schema)) n (length (all_lets (placeless_flat schema))) (is_small (placeless_flat schema))) (assertions-count schema)
    ∙ ap (λ n. rules-with (length (all_rules schema)) (length (all_assertions schema)) n (is_small (placeless_flat schema))) (lets-count schema)
    ∙ ap (rules-with (length (all_rules schema)) (length (all_assertions schema)) (length (all_lets schema))) (small-same schema)
