use Rattle.std.proofs.Common.{take}
use Rattle.doc_edits.specs.Keeping.{NamesGrow}
use Rattle.doc_edits.specs.inner.Copies.{AreCopies}
use Rattle.doc_edits.proofs.copying.Placement.copy_all.Given as goal

-- the nodes before the place are copied
abbrev pub invariant-loop-n : goal.invariant-loop-n
invariant-loop-n l = record {
  copied : AreCopies l.names l.piece.names l.self l.piece.nodes (take l.n-index l.nodes) l.copies.items;
  grown : NamesGrow l.fn.names l.names;
}
