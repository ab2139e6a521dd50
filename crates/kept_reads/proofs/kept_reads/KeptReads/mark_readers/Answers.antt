-- At last no unit has read the cell.
use Rattle.std.proofs.Common.{refl}
use Rattle.edit_commands.specs.Touched.{holds_cell}
use Rattle.xp_outcome.specs.Evaluation.{cell}
use Rattle.kept_reads.proofs.DroppingLemmas.{none_gives, taken_all, taken_on, thins_alike}
use Rattle.kept_reads.proofs.kept_reads.KeptReads.mark_readers.Goals as goal

pub loop-place-init : goal.loop-place-init
loop-place-init c = λ hit. thins_alike _ _ _ c.args.self.now c.args.self.now refl refl

pub loop-place-preserved : goal.loop-place-preserved
loop-place-preserved c = λ hit.
    taken_on c.args.at.now.tree.now.nodes (holds_cell c.args.at.now.tree.now.nodes c.args.at.now.touched.now) c.args.at.now.width
    (cell c.args.cell.now) hit
    c.args.self.now c.loop-place.self c.take.new.self c.flag.new.self
    c.in-Some.place c.flag.ensures.row c.in-Some.ensures.took c.in-Some.ensures.dropped c.take.ensures.blocks c.flag.ensures.entries
    c.flag.ensures.row_is c.flag.ensures.blocks
    (c.loop-place.invariant hit)

pub returns : goal.returns
returns c = λ all.
    let hit = all (cell c.args.cell.now) refl in
    taken_all c.args.at.now.tree.now.nodes (holds_cell c.args.at.now.tree.now.nodes c.args.at.now.touched.now) c.args.at.now.width
    (cell c.args.cell.now) hit
    c.args.self.now c.loop-place.self c.take.new.self
    (none_gives c.take.result _ c.in_default.is c.take.ensures.unchanged) (none_gives c.take.result _ c.in_default.is c.take.ensures.none)
    (c.loop-place.invariant hit)
