-- The patterns of a schema, as they are read.
use Rattle.std.proofs.Common.{◌≡◌, map, refl, ap, ◌∙◌}
use Rattle.std.specs.List.{flat_map}
use Rattle.doc_tree.specs.Laws.{HasWaysUp, Ordered, Walks, WellFormed}
use Rattle.doc_tree.specs.Scope.{HasScopes}
use Rattle.doc_tree.specs.Table.{Table}
use Rattle.name_scopes.specs.ScopedTree.{Scoped}
use Rattle.name_scopes.specs.Scoping.{InScope}
use Rattle.sch_model.specs.declared.flat.FlatSchema.{FlatSchema}
use Rattle.sch_rules.specs.declared.word.Word.TheVariants as word
use Rattle.sch_rules.specs.RawSchema.{pattern_of, raw_schema, read_if, read_kids}
use Rattle.sch_flat.specs.FlatDocument.{flat_events, pattern_events}
use Rattle.sch_flat_laws.specs.Expansion.{raw_pattern}
use Rattle.sch_model.specs.Placeless.{placeless_pattern}
use Rattle.sch_flat_laws.specs.Readable.{Each, ReadablePattern}
use Rattle.sch_flat_laws.proofs.Reading.Document.{found}
use Rattle.sch_flat_laws.proofs.Reading.Front.{words}
use Rattle.sch_flat_laws.proofs.Reading.Rules.{pattern_read, read_to_all}
use Rattle.sch_flat_laws.proofs.Reading.Schema.{both_none, none_of, pieces, skip, stop}

module _ (T : Table) (formed : WellFormed T) (ordered : Ordered T) (ways : HasWaysUp T) (walks : Walks T) (scopes : HasScopes T) (in_scope : InScope T) where
  pub patterns : (schema : FlatSchema) → Scoped (flat_events schema) T → Each ReadablePattern schema.patterns →
      map placeless_pattern (raw_schema T).patterns ≡ map placeless_pattern (map raw_pattern schema.patterns)
  patterns schema scoped good =
      let f = found T formed ways walks scopes in_scope schema scoped in
      let d = f.node in
      let p = pieces T formed ways walks scopes in_scope d schema f.kids in
      let w = words T formed ways walks scopes in_scope schema f p in
      let g = read_if T word.Pattern (pattern_of T) in
      let are : read_kids T word.Pattern (pattern_of T) d ≡ flat_map g p.patterns =
      ap (flat_map g) p.are
      ∙ skip g p.titles _ (none_of T word.Pattern word.Title (pattern_of T) refl p.titles w.titles)
      ∙ skip g p.ns _ (none_of T word.Pattern word.Ns (pattern_of T) refl p.ns w.ns)
      ∙ skip g p.lets _ (none_of T word.Pattern word.Let (pattern_of T) refl p.lets w.lets)
      ∙ skip g p.phases _ (none_of T word.Pattern word.Phase (pattern_of T) refl p.phases w.phases)
      ∙ stop g p.patterns _ (both_none g p.diagnostics p.properties (none_of T word.Pattern word.Diagnostics (pattern_of T) refl p.diagnostics w.diagnostics)
      (none_of T word.Pattern word.Properties (pattern_of T) refl p.properties w.properties)) in
      ap (λ n. map placeless_pattern (read_kids T word.Pattern (pattern_of T) n)) f.is
      ∙ ap (map placeless_pattern) are
      ∙ read_to_all T word.Pattern (pattern_of T) placeless_pattern raw_pattern ReadablePattern pattern_events d refl
      (λ k x ok. pattern_read T formed ordered ways walks scopes in_scope d k x ok f.place) p.patterns schema.patterns good w.pattern_kids p.pattern_pairs
