-- The rank of the last node before the seam is less than that of the first behind it.
use Rattle.std.proofs.Common.{refl, arith}
use Rattle.doc_table.specs.inner.Parts.{table_of}
use Rattle.doc_table.proofs.Appending.{holder-live}
use Rattle.doc_edits.proofs.SeamLemmas.{some-seam}
use Rattle.doc_edits.proofs.SpreadLemmas.{left-less, room-behind, room-between}
use Rattle.doc_edits.proofs.ranking.spread_at.Goals as goal

pub between-requires : goal.between-requires
between-requires c =
    let s = some-seam (table_of c.args.bare.now) c.requires.sound.formed c.args.parent c.args.before (holder-live (table_of c.args.bare.now) c.args.parent c.requires.holder) in
    omega (
      arith,
      left-less c.args.bare.now c.requires.sound c.args.parent c.args.before s.0 s.1 s.2 c.node_before.result c.node_before.ensures c.in-Some.right (c.in-Some.ensures s.0 s.1 s.2),
      c.rank-left.ensures,
    )

pub returns-in-Some-clause-room : goal.returns-in-Some-clause-room
returns-in-Some-clause-room c = λ some front back seam.
    room-between c.args.bare.now c.requires.sound c.args.parent c.args.before front back seam c.node_before.result c.node_before.ensures c.args.count c.in-Some.right c.between.result some
    (omega (arith, c.between.ensures.first, c.rank-left.ensures)) c.between.ensures.within (c.in-Some.ensures front back seam)

pub returns-in-None-clause-room : goal.returns-in-None-clause-room
returns-in-None-clause-room c = λ some front back seam.
    room-behind c.args.bare.now c.requires.sound c.args.parent c.args.before front back seam c.node_before.result c.node_before.ensures c.args.count _
    c.next_rank.ensures refl (c.in-None.ensures front back seam)
