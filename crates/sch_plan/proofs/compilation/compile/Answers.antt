use Rattle.std.proofs.Common.{rules}
use Rattle.sch_plan.proofs.SoundPlan.{compiled-sound}
use Rattle.sch_plan.proofs.compilation.compile.Goals as goal

pub returns-clause-sound : goal.returns-clause-sound
returns-clause-sound c =
    compiled-sound c.slots_are_in_scope.ensures.expressions c.slots_are_in_scope.ensures.patterns c.args.flat c.args.phase.now c.in_ok-plan.plan c.in_ok-plan.ensures.given
    (c.if-not-is_counted.ensures (search rules))
