-- Each node of the piece has a number below their count.
use Rattle.std.proofs.Common.{◌≡◌, true, ap, subst, arith, length}
use Rattle.doc_table.specs.Lists.{mem}
use Rattle.doc_edits.proofs.InsertedLemmas.{node-short}
use Rattle.doc_edits.proofs.inserting.place_piece.Goals as goal

pub numbers_for-requires-clause-room : goal.numbers_for-requires-clause-room
numbers_for-requires-clause-room c = λ m h.
    omega (
      arith,
      node-short c.args.piece.now c.requires.piece m (subst (λ l. mem m l ≡ true) c.requires.nodes h),
      c.len.ensures,
      ap (λ parts. length parts.nodes) c.piece.view_is,
      c.piece.inside.nodes.ok,
    )
