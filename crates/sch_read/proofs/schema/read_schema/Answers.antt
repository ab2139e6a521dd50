-- A document that breaks no rule has a document element that counts.
use Rattle.std.proofs.Common.{sym, subst}
use Rattle.sch_source.specs.Counts.{Counts}
use Rattle.sch_read.proofs.DocumentLemmas.{document_counts}
use Rattle.sch_read.proofs.schema.read_schema.Goals as goal

pub schema-requires : goal.schema-requires
schema-requires c =
    subst (Counts c.args.tree.now.nodes) (sym c.document_element.ensures)
    (document_counts c.args.tree.now.nodes c.laws.ensures.well_formed c.laws.ensures.ordered c.laws.ensures.ways_up ((c.first_agrees.ensures c.args.tree.now.nodes c.laws.ensures.well_formed).none_broken c.in_ok-check.ensures))
