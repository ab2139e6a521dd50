use Rattle.std.proofs.Common.{◌≡◌, take}
use Rattle.std.specs.List.{flat_map}
use Rattle.doc_table.specs.Walks.{below}
use Rattle.doc_table.specs.inner.Parts.{table_of}
use Rattle.doc_edits.proofs.inserting.nodes_of.Given as goal

abbrev pub invariant-loop-kid : goal.invariant-loop-kid
invariant-loop-kid l = l.list ≡ flat_map (below (table_of l.piece)) (take l.kid-index l.kid-items)
