-- The front of a schema, as it is read.
use Rattle.std.proofs.Common.{◌≡◌, ℕ, ◌++◌, map, refl, ap, ◌∙◌, subst}
use Rattle.std.specs.List.{flat_map}
use Rattle.std.specs.Prelude.{codes}
use Rattle.std.specs.Option.{option_to_list}
use Rattle.doc_tree.specs.Laws.{HasWaysUp, Walks, WellFormed}
use Rattle.doc_tree.specs.Scope.{HasScopes}
use Rattle.doc_tree.specs.Table.{Table}
use Rattle.name_scopes.specs.ScopedTree.{Scoped}
use Rattle.name_scopes.specs.Scoping.{InScope}
use Rattle.sch_model.specs.declared.flat.FlatSchema.{FlatSchema}
use Rattle.sch_rules.specs.declared.word.Word.TheVariants as word
use Rattle.sch_rules.specs.Attributes.{said as said_at}
use Rattle.sch_rules.specs.RawSchema.{let_of, ns_of, phase_of, raw_schema, read_if, read_kids}
use Rattle.sch_flat.specs.FlatDocument.{flat_events, let_events, ns_events, pattern_events, phase_events}
use Rattle.sch_model.specs.Placeless.{placeless_let, placeless_ns, placeless_phase}
use Rattle.sch_flat_laws.specs.ReadBack.{SameFront}
use Rattle.sch_flat_laws.proofs.Reading.Document.{Found, are_kids, found, notes_element, some_list, title_element}
use Rattle.sch_flat_laws.proofs.Reading.Leaves.{AreKids, all_read, let_read, ns_read, read_all}
use Rattle.sch_flat_laws.proofs.Reading.Notes as kind
use Rattle.sch_flat_laws.proofs.Reading.Schema.{AllWords, Pieces, all_words, both_none, kids_parts, none_of, notes_word, pattern_word, phase_read, pieces, skip, stop, title_word}

module _ (T : Table) (formed : WellFormed T) (ways : HasWaysUp T) (walks : Walks T) (scopes : HasScopes T) (in_scope : InScope T) where
  -- the words of all kids of the document element
  pub record Words (d : ℕ) (schema : FlatSchema) (p : Pieces T d schema) : Type 0 where
    pub titles : AllWords T word.Title p.titles
    pub ns : AllWords T word.Ns p.ns
    pub lets : AllWords T word.Let p.lets
    pub phases : AllWords T word.Phase p.phases
    pub patterns : AllWords T word.Pattern p.patterns
    pub diagnostics : AllWords T word.Diagnostics p.diagnostics
    pub properties : AllWords T word.Properties p.properties
    pub ns_kids : AreKids T d p.ns
    pub let_kids : AreKids T d p.lets
    pub phase_kids : AreKids T d p.phases
    pub pattern_kids : AreKids T d p.patterns
    pub title_kids : AreKids T d p.titles
    pub diagnostics_kids : AreKids T d p.diagnostics
    pub property_kids : AreKids T d p.properties

  pub words : (schema : FlatSchema) (f : Found T schema) (p : Pieces T f.node schema) → Words f.node schema p
  words schema f p =
      let d = f.node in
      let k1 = kids_parts T d p.titles (p.ns ++ (p.lets ++ (p.phases ++ (p.patterns ++ (p.diagnostics ++ p.properties))))) (subst (AreKids T d) p.are (are_kids T formed ways walks scopes in_scope d)) in
      let k2 = kids_parts T d p.ns (p.lets ++ (p.phases ++ (p.patterns ++ (p.diagnostics ++ p.properties)))) k1.1 in
      let k3 = kids_parts T d p.lets (p.phases ++ (p.patterns ++ (p.diagnostics ++ p.properties))) k2.1 in
      let k4 = kids_parts T d p.phases (p.patterns ++ (p.diagnostics ++ p.properties)) k3.1 in
      let k5 = kids_parts T d p.patterns (p.diagnostics ++ p.properties) k4.1 in
      let k6 = kids_parts T d p.diagnostics p.properties k5.1 in
      record {
        titles = all_words T word.Title title_element d (λ k x. title_word T formed ways walks scopes in_scope d k x f.place) p.titles (option_to_list schema.head.title) k1.0 p.title_pairs;
        ns = all_words T word.Ns ns_events d (λ k x a b c e. (ns_read T formed ways walks scopes in_scope d k x f.place a b c e).word) p.ns schema.ns k2.0 p.ns_pairs;
        lets = all_words T word.Let let_events d (λ k x a b c e. (let_read T formed ways walks scopes in_scope d k x f.place a b c e).word) p.lets schema.lets k3.0 p.let_pairs;
        phases = all_words T word.Phase phase_events d (λ k x a b c e. (phase_read T formed ways walks scopes in_scope d k x f.place a b c e).word) p.phases schema.phases k4.0 p.phase_pairs;
        patterns = all_words T word.Pattern pattern_events d (λ k x. pattern_word T formed ways walks scopes in_scope d k x f.place) p.patterns schema.patterns k5.0 p.pattern_pairs;
        diagnostics = all_words T word.Diagnostics (notes_element kind.diagnostics) d (λ k x. notes_word T formed ways walks scopes in_scope kind.diagnostics d k x f.place) p.diagnostics (some_list schema.diagnostics) k6.0 p.diagnostics_pairs;
        properties = all_words T word.Properties (notes_element kind.properties) d (λ k x. notes_word T formed ways walks scopes in_scope kind.properties d k x f.place) p.properties (some_list schema.properties) k6.1 p.property_pairs;
        ns_kids = k2.0;
        let_kids = k3.0;
        phase_kids = k4.0;
        pattern_kids = k5.0;
        title_kids = k1.0;
        diagnostics_kids = k6.0;
        property_kids = k6.1;
      }

  pub front : (schema : FlatSchema) → Scoped (flat_events schema) T → SameFront schema (raw_schema T)
  front schema scoped =
      let f = found T formed ways walks scopes in_scope schema scoped in
      let d = f.node in
      let p = pieces T formed ways walks scopes in_scope d schema f.kids in
      let w = words schema f p in
      let gn = read_if T word.Ns (ns_of T) in
      let gl = read_if T word.Let (let_of T) in
      let gp = read_if T word.Phase (phase_of T) in
      let ns_are : read_kids T word.Ns (ns_of T) d ≡ flat_map gn p.ns =
      ap (flat_map gn) p.are
      ∙ skip gn p.titles _ (none_of T word.Ns word.Title (ns_of T) refl p.titles w.titles)
      ∙ stop gn p.ns _ (both_none gn p.lets _ (none_of T word.Ns word.Let (ns_of T) refl p.lets w.lets)
      (both_none gn p.phases _ (none_of T word.Ns word.Phase (ns_of T) refl p.phases w.phases)
      (both_none gn p.patterns _ (none_of T word.Ns word.Pattern (ns_of T) refl p.patterns w.patterns)
      (both_none gn p.diagnostics p.properties (none_of T word.Ns word.Diagnostics (ns_of T) refl p.diagnostics w.diagnostics)
      (none_of T word.Ns word.Properties (ns_of T) refl p.properties w.properties))))) in
      let lets_are : read_kids T word.Let (let_of T) d ≡ flat_map gl p.lets =
      ap (flat_map gl) p.are
      ∙ skip gl p.titles _ (none_of T word.Let word.Title (let_of T) refl p.titles w.titles)
      ∙ skip gl p.ns _ (none_of T word.Let word.Ns (let_of T) refl p.ns w.ns)
      ∙ stop gl p.lets _ (both_none gl p.phases _ (none_of T word.Let word.Phase (let_of T) refl p.phases w.phases)
      (both_none gl p.patterns _ (none_of T word.Let word.Pattern (let_of T) refl p.patterns w.patterns)
      (both_none gl p.diagnostics p.properties (none_of T word.Let word.Diagnostics (let_of T) refl p.diagnostics w.diagnostics)
      (none_of T word.Let word.Properties (let_of T) refl p.properties w.properties)))) in
      let phases_are : read_kids T word.Phase (phase_of T) d ≡ flat_map gp p.phases =
      ap (flat_map gp) p.are
      ∙ skip gp p.titles _ (none_of T word.Phase word.Title (phase_of T) refl p.titles w.titles)
      ∙ skip gp p.ns _ (none_of T word.Phase word.Ns (phase_of T) refl p.ns w.ns)
      ∙ skip gp p.lets _ (none_of T word.Phase word.Let (phase_of T) refl p.lets w.lets)
      ∙ stop gp p.phases _
      (both_none gp p.patterns _ (none_of T word.Phase word.Pattern (phase_of T) refl p.patterns w.patterns)
      (both_none gp p.diagnostics p.properties (none_of T word.Phase word.Diagnostics (phase_of T) refl p.diagnostics w.diagnostics)
      (none_of T word.Phase word.Properties (phase_of T) refl p.properties w.properties))) in
      record {
        version = ap (λ n. said_at T n (codes "schemaVersion")) f.is ∙ f.says (codes "schemaVersion");
        default_phase = ap (λ n. said_at T n (codes "defaultPhase")) f.is ∙ f.says (codes "defaultPhase");
        ns = ap (λ n. map placeless_ns (read_kids T word.Ns (ns_of T) n)) f.is
            ∙ ap (map placeless_ns) ns_are
            ∙ read_all T word.Ns (ns_of T) placeless_ns refl p.ns schema.ns
            (all_read T word.Ns (ns_of T) placeless_ns ns_events d (λ k x. ns_read T formed ways walks scopes in_scope d k x f.place) p.ns schema.ns w.ns_kids p.ns_pairs);
        lets = ap (λ n. map placeless_let (read_kids T word.Let (let_of T) n)) f.is
            ∙ ap (map placeless_let) lets_are
            ∙ read_all T word.Let (let_of T) placeless_let refl p.lets schema.lets
            (all_read T word.Let (let_of T) placeless_let let_events d (λ k x. let_read T formed ways walks scopes in_scope d k x f.place) p.lets schema.lets w.let_kids p.let_pairs);
        phases = ap (λ n. map placeless_phase (read_kids T word.Phase (phase_of T) n)) f.is
            ∙ ap (map placeless_phase) phases_are
            ∙ read_all T word.Phase (phase_of T) placeless_phase refl p.phases schema.phases
            (all_read T word.Phase (phase_of T) placeless_phase phase_events d (λ k x. phase_read T formed ways walks scopes in_scope d k x f.place) p.phases schema.phases w.phase_kids p.phase_pairs);
      }
