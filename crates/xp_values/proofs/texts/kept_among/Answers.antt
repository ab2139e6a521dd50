-- The positions from a number on are those after the ones before it.
use Rattle.std.proofs.Common.{rules, w64}
use Rattle.std.specs.Prelude.{FitsSigned}
use Rattle.std.proofs.lemmas.Int.{to_z-of_z}
use Rattle.xp_values.proofs.PositionLemmas.{keeps_none_of, keeps_some}
use Rattle.xp_values.proofs.texts.kept_among.Goals as goal

pub returns-in-NaN : goal.returns-in-NaN
returns-in-NaN c = λ most. rw c.in-NaN.is (keeps_none_of c.args.from most)

pub returns-in-Whole : goal.returns-in-Whole
returns-in-Whole c = λ most.
    let arm = c.in-Whole in
    let fits : FitsSigned w64 arm.len = search rules in
    rw (arm.is, c.kept_from.ensures, c.skipped_before.ensures, to_z-of_z w64 c.args.from c.ranges.from, to_z-of_z w64 arm.len fits)
    (keeps_some c.args.from arm.len most)
