-- At last no unit has read the names.
use Rattle.std.proofs.Common.{refl}
use Rattle.edit_commands.specs.Touched.{holds_cell}
use Rattle.xp_outcome.specs.Evaluation.{names_along}
use Rattle.kept_reads.proofs.DroppingLemmas.{none_gives, taken_all, taken_on, thins_alike}
use Rattle.kept_reads.proofs.kept_reads.KeptReads.mark_names.Goals as goal

pub loop-place-init : goal.loop-place-init
loop-place-init c = λ hit. thins_alike _ _ _ c.args.self.now c.args.self.now refl refl

pub loop-place-preserved : goal.loop-place-preserved
loop-place-preserved c = λ hit.
    taken_on c.args.at.now.tree.now.nodes (holds_cell c.args.at.now.tree.now.nodes c.args.at.now.touched.now) c.args.at.now.width
    (names_along c.args.axis c.args.node) hit
    c.args.self.now c.loop-place.self c.take_names.new.self c.flag.new.self
    c.in-Some.place c.flag.ensures.row c.in-Some.ensures.took c.in-Some.ensures.dropped c.take_names.ensures.blocks c.flag.ensures.entries
    c.flag.ensures.row_is c.flag.ensures.blocks
    (c.loop-place.invariant hit)

pub returns : goal.returns
returns c = λ all.
    let hit = all (names_along c.args.axis c.args.node) refl in
    taken_all c.args.at.now.tree.now.nodes (holds_cell c.args.at.now.tree.now.nodes c.args.at.now.touched.now) c.args.at.now.width
    (names_along c.args.axis c.args.node) hit
    c.args.self.now c.loop-place.self c.take_names.new.self
    (none_gives c.take_names.result _ c.in_default.is c.take_names.ensures.unchanged)
    (none_gives c.take_names.result _ c.in_default.is c.take_names.ensures.none)
    (c.loop-place.invariant hit)
