use Rattle.std.proofs.Common.{◌≡◌, ◌+◌, ◌∷◌, take}
use Rattle.doc_table.specs.Table.{attrs_of}
use Rattle.doc_table.specs.inner.Parts.{table_of}
use Rattle.doc_edits.specs.inner.Ranking.{ranked}
use Rattle.doc_edits.proofs.reranking.rank_node.Given as goal

-- the node and the attributes up to one have their ranks
abbrev pub invariant-loop-i : goal.invariant-loop-i
invariant-loop-i l = record {
  ranked_so_far : l.bare ≡ record l.fn.bare { nodes = ranked l.fn.place (l.n ∷ take l.i (attrs_of (table_of l.fn.bare) l.n)) l.fn.bare.nodes };
  next_is : l.next ≡ l.fn.place + l.i + 1;
}
