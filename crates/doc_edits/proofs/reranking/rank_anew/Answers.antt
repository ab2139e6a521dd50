-- All below the root are the live nodes, of which there are few.
use Rattle.std.proofs.Common.{length, ap, arith}
use Rattle.doc_table.specs.Walks.{below}
use Rattle.doc_table.specs.inner.Parts.{table_of}
use Rattle.doc_table.proofs.TreeLaws.{well-formed}
use Rattle.doc_edits.proofs.reranking.rank_anew.Goals as goal

pub rank_below-requires-clause-few : goal.rank_below-requires-clause-few
rank_below-requires-clause-few c =
    omega (arith, (well-formed (table_of c.args.bare.now) c.requires).few_nodes, ap (λ n. length (below (table_of c.args.bare.now) n)) c.root-root.ensures)
