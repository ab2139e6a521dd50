-- The whole schema, as it is read.
use Rattle.std.proofs.Common.{◌≡◌, ℕ, Bool, false, cond, List, [], ◌∷◌, ◌++◌, Option, None, Some, map, find, refl, sym, ap, ◌∙◌, append-nil}
use Rattle.std.specs.List.{flat_map}
use Rattle.std.specs.Prelude.{option_map}
use Rattle.std.specs.Option.{option_to_list}
use Rattle.doc_tree.specs.Laws.{HasWaysUp, Ordered, Walks, WellFormed}
use Rattle.doc_tree.specs.Scope.{HasScopes}
use Rattle.doc_tree.specs.Table.{Table, kids_of}
use Rattle.name_scopes.specs.ScopedTree.{Scoped}
use Rattle.name_scopes.specs.Scoping.{InScope}
use Rattle.sch_model.specs.declared.flat.FlatSchema.{FlatSchema}
use Rattle.sch_model.specs.declared.parts.Diagnostic.{Diagnostic}
use Rattle.sch_model.specs.declared.parts.LetDecl.{LetDecl}
use Rattle.sch_model.specs.declared.parts.Ns.{Ns}
use Rattle.sch_model.specs.declared.parts.Phase.{Phase}
use Rattle.sch_model.specs.declared.raw.RawPattern.{RawPattern}
use Rattle.sch_model.specs.declared.raw.RawSchema.{RawSchema}
use Rattle.sch_rules.specs.declared.word.Word.TheVariants as word
use Rattle.sch_rules.specs.Elements.{document_element, word_at}
use Rattle.sch_rules.specs.RawSchema.{diagnostics_at, notes_at, properties_at, raw_schema, title_of}
use Rattle.sch_rules.specs.Words.{is_word}
use Rattle.sch_flat.specs.FlatDocument.{flat_events}
use Rattle.sch_flat_laws.specs.Expansion.{raw_of}
use Rattle.sch_model.specs.Placeless.{placeless_diagnostic, placeless_let, placeless_ns, placeless_pattern, placeless_phase, placeless_schema}
use Rattle.sch_flat_laws.specs.Readable.{ReadableSchema}
use Rattle.sch_flat_laws.proofs.Reading.Document.{found, title_element}
use Rattle.sch_flat_laws.proofs.Reading.Ends.{no_notes_at, not_found, notes_read, title_read}
use Rattle.sch_flat_laws.proofs.Reading.Front.{front, words}
use Rattle.sch_flat_laws.proofs.Reading.Kids.{Pairs}
use Rattle.sch_flat_laws.proofs.Reading.Leaves.{AreKids}
use Rattle.sch_flat_laws.proofs.Reading.Notes.{Notes, group_of, note_of}
use Rattle.sch_flat_laws.proofs.Reading.Notes as kind
use Rattle.sch_flat_laws.proofs.Reading.Patterns.{patterns}
use Rattle.sch_flat_laws.proofs.Reading.Places.{Place}
use Rattle.sch_flat_laws.proofs.Reading.Schema.{AllWords, pieces, skip, stop}

of_parts : Option (List ℕ) → Option (List ℕ) → Option (List ℕ) → List Ns → List LetDecl → List Phase → List RawPattern → List Diagnostic → List Diagnostic → RawSchema
of_parts version phase title ns lets phases patterns diagnostics properties = record {
  head = record { node = 0; schema_version = version; default_phase = phase; title = title };
  ns = ns;
  lets = lets;
  phases = phases;
  patterns = patterns;
  diagnostics = diagnostics;
  properties = properties;
}

module _ (T : Table) (formed : WellFormed T) (ordered : Ordered T) (ways : HasWaysUp T) (walks : Walks T) (scopes : HasScopes T) (in_scope : InScope T) where
  abbrev titled : ℕ → Bool
  titled k = is_word word.Title (word_at T k)

  title-found : (p : ℕ) (title : Option (List ℕ)) (ks more : List ℕ) → Place T p → AreKids T p ks → Pairs T title_element ks (option_to_list title) → AllWords T word.Title ks →
      find titled more ≡ None → option_map (title_of T) (find titled (ks ++ more)) ≡ title
  title-found p None [] more place kids pairs all none = ap (option_map (title_of T)) none
  title-found p None (k ∷ ks) more place kids pairs all none = absurd pairs
  title-found p (Some title) [] more place kids pairs all none = absurd pairs
  title-found p (Some title) (k ∷ ks) more place kids pairs all none =
      ap (λ (b : Bool). option_map (title_of T) (cond b (Some k) (find titled (ks ++ more)))) (ap (is_word word.Title) all.0)
      ∙ ap (λ t. Some t) (title_read T formed ordered ways walks scopes in_scope p k title place kids.0.0 kids.0.1 kids.0.2 pairs.0)

  pub whole : (schema : FlatSchema) → Scoped (flat_events schema) T → ReadableSchema schema → placeless_schema (raw_schema T) ≡ placeless_schema (raw_of schema)
  unfolding of_parts
  whole schema scoped good =
      let f = found T formed ways walks scopes in_scope schema scoped in
      let d = f.node in
      let p = pieces T formed ways walks scopes in_scope d schema f.kids in
      let w = words T formed ways walks scopes in_scope schema f p in
      let s = front T formed ways walks scopes in_scope schema scoped in
      let later : find titled (p.ns ++ (p.lets ++ (p.phases ++ (p.patterns ++ (p.diagnostics ++ p.properties))))) ≡ None =
      not_found T word.Ns refl p.ns _ w.ns
      ∙ not_found T word.Let refl p.lets _ w.lets
      ∙ not_found T word.Phase refl p.phases _ w.phases
      ∙ not_found T word.Pattern refl p.patterns _ w.patterns
      ∙ not_found T word.Diagnostics refl p.diagnostics _ w.diagnostics
      ∙ ap (find titled) (sym (append-nil p.properties))
      ∙ not_found T word.Properties refl p.properties [] w.properties in
      let title : (raw_schema T).head.title ≡ schema.head.title =
      ap (λ n. option_map (title_of T) (find titled (kids_of T n))) f.is
      ∙ ap (λ l. option_map (title_of T) (find titled l)) p.are
      ∙ title-found d schema.head.title p.titles _ f.place w.title_kids p.title_pairs w.titles later in
      let before : (notes : Notes) → is_word (group_of notes) (Some word.Title) ≡ false → is_word (group_of notes) (Some word.Ns) ≡ false → is_word (group_of notes) (Some word.Let) ≡ false →
      is_word (group_of notes) (Some word.Phase) ≡ false → is_word (group_of notes) (Some word.Pattern) ≡ false →
      flat_map (notes_at T (group_of notes) (note_of notes)) (kids_of T (document_element T)) ≡ flat_map (notes_at T (group_of notes) (note_of notes)) (p.diagnostics ++ p.properties) =
      λ notes titles ns lets phases patterns.
      let g = notes_at T (group_of notes) (note_of notes) in
      ap (λ n. flat_map g (kids_of T n)) f.is
      ∙ ap (flat_map g) p.are
      ∙ skip g p.titles _ (no_notes_at T notes word.Title titles p.titles w.titles)
      ∙ skip g p.ns _ (no_notes_at T notes word.Ns ns p.ns w.ns)
      ∙ skip g p.lets _ (no_notes_at T notes word.Let lets p.lets w.lets)
      ∙ skip g p.phases _ (no_notes_at T notes word.Phase phases p.phases w.phases)
      ∙ skip g p.patterns _ (no_notes_at T notes word.Pattern patterns p.patterns w.patterns) in
      let diagnostics : map placeless_diagnostic (raw_schema T).diagnostics ≡ map placeless_diagnostic schema.diagnostics =
      ap (map placeless_diagnostic) (before kind.diagnostics refl refl refl refl refl
      ∙ stop (diagnostics_at T) p.diagnostics p.properties (no_notes_at T kind.diagnostics word.Properties refl p.properties w.properties))
      ∙ notes_read T formed ordered ways walks scopes in_scope kind.diagnostics d p.diagnostics schema.diagnostics good.diagnostics f.place w.diagnostics_kids p.diagnostics_pairs in
      let properties : map placeless_diagnostic (raw_schema T).properties ≡ map placeless_diagnostic schema.properties =
      ap (map placeless_diagnostic) (before kind.properties refl refl refl refl refl
      ∙ skip (properties_at T) p.diagnostics p.properties (no_notes_at T kind.properties word.Diagnostics refl p.diagnostics w.diagnostics))
      ∙ notes_read T formed ordered ways walks scopes in_scope kind.properties d p.properties schema.properties good.properties f.place w.property_kids p.property_pairs in
      let pats = patterns T formed ordered ways walks scopes in_scope schema scoped good.patterns in
      ap (λ x. of_parts x (raw_schema T).head.default_phase (raw_schema T).head.title (map placeless_ns (raw_schema T).ns) (map placeless_let (raw_schema T).lets)
      (map placeless_phase (raw_schema T).phases) (map placeless_pattern (raw_schema T).patterns) (map placeless_diagnostic (raw_schema T).diagnostics) (map placeless_diagnostic (raw_schema T).properties)) s.version
      ∙ ap (λ x. of_parts schema.head.schema_version x (raw_schema T).head.title (map placeless_ns (raw_schema T).ns) (map placeless_let (raw_schema T).lets)
      (map placeless_phase (raw_schema T).phases) (map placeless_pattern (raw_schema T).patterns) (map placeless_diagnostic (raw_schema T).diagnostics) (map placeless_diagnostic (raw_schema T).properties)) s.default_phase
      ∙ ap (λ x. of_parts schema.head.schema_version schema.head.default_phase x (map placeless_ns (raw_schema T).ns) (map placeless_let (raw_schema T).lets)
      (map placeless_phase (raw_schema T).phases) (map placeless_pattern (raw_schema T).patterns) (map placeless_diagnostic (raw_schema T).diagnostics) (map placeless_diagnostic (raw_schema T).properties)) title
      ∙ ap (λ x. of_parts schema.head.schema_version schema.head.default_phase schema.head.title x (map placeless_let (raw_schema T).lets)
      (map placeless_phase (raw_schema T).phases) (map placeless_pattern (raw_schema T).patterns) (map placeless_diagnostic (raw_schema T).diagnostics) (map placeless_diagnostic (raw_schema T).properties)) s.ns
      ∙ ap (λ x. of_parts schema.head.schema_version schema.head.default_phase schema.head.title (map placeless_ns schema.ns) x
      (map placeless_phase (raw_schema T).phases) (map placeless_pattern (raw_schema T).patterns) (map placeless_diagnostic (raw_schema T).diagnostics) (map placeless_diagnostic (raw_schema T).properties)) s.lets
      ∙ ap (λ x. of_parts schema.head.schema_version schema.head.default_phase schema.head.title (map placeless_ns schema.ns) (map placeless_let schema.lets)
      x (map placeless_pattern (raw_schema T).patterns) (map placeless_diagnostic (raw_schema T).diagnostics) (map placeless_diagnostic (raw_schema T).properties)) s.phases
      ∙ ap (λ x. of_parts schema.head.schema_version schema.head.default_phase schema.head.title (map placeless_ns schema.ns) (map placeless_let schema.lets)
      (map placeless_phase schema.phases) x (map placeless_diagnostic (raw_schema T).diagnostics) (map placeless_diagnostic (raw_schema T).properties)) pats
      ∙ ap (λ x. of_parts schema.head.schema_version schema.head.default_phase schema.head.title (map placeless_ns schema.ns) (map placeless_let schema.lets)
      (map placeless_phase schema.phases) (map placeless_pattern (raw_of schema).patterns) x (map placeless_diagnostic (raw_schema T).properties)) diagnostics
      ∙ ap (of_parts schema.head.schema_version schema.head.default_phase schema.head.title (map placeless_ns schema.ns) (map placeless_let schema.lets)
      (map placeless_phase schema.phases) (map placeless_pattern (raw_of schema).patterns) (map placeless_diagnostic schema.diagnostics)) properties
