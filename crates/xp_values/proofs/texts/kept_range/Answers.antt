-- From NaN on there are no positions.
use Rattle.std.proofs.Common.{rules, w64}
use Rattle.std.specs.Prelude.{FitsSigned}
use Rattle.std.proofs.lemmas.Int.{to_z-of_z}
use Rattle.xp_values.proofs.PositionLemmas.{keeps_none_from}
use Rattle.xp_values.proofs.texts.kept_range.Goals as goal

pub returns-in-NaN : goal.returns-in-NaN
returns-in-NaN c = rw c.in-NaN.is (keeps_none_from c.args.len c.args.most)

pub returns-in-Whole : goal.returns-in-Whole
returns-in-Whole c =
    let arm = c.in-Whole in
    let fits : FitsSigned w64 arm.from = search rules in
    rw arm.is (rw (to_z-of_z w64 arm.from fits) at c.kept_after.ensures)
