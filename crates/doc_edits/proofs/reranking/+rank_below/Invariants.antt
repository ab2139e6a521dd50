use Rattle.std.proofs.Common.{◌≡◌, ◌+◌, ◌-◌, length}
use Rattle.doc_table.specs.declared.limits.TheConstants.{MAX_DEPTH}
use Rattle.doc_table.specs.Walks.{ancestors}
use Rattle.doc_table.specs.inner.Parts.{table_of}
use Rattle.doc_edits.specs.inner.Ranking.{ranked}
use Rattle.doc_edits.proofs.RankingLemmas.{begun}
use Rattle.doc_edits.proofs.reranking.+rank_below.Given as goal

-- how much deeper a way down can go
abbrev pub decreases-rank_below : goal.decreases-rank_below
decreases-rank_below l = (MAX_DEPTH + 2) - length (ancestors (table_of l.bare.now) l.n)

-- the node, its attributes, and all below the kids up to one have their ranks
abbrev pub invariant-loop-i : goal.invariant-loop-i
invariant-loop-i l = record {
  ranked_so_far : l.bare ≡ record l.fn.bare { nodes = ranked l.fn.place (begun (table_of l.fn.bare) l.fn.n l.i) l.fn.bare.nodes };
  next_is : l.next ≡ l.fn.place + length (begun (table_of l.fn.bare) l.fn.n l.i);
}
