use Rattle.sch_plan.proofs.Walking.{answers_stop, answers_then}
use Rattle.sch_plan.proofs.compilation.compiled.Goals as goal

pub returns-in-Ok : goal.returns-in-Ok
returns-in-Ok c = answers_then _ _ _ _ c.in-Ok.ensures c.walk_if_few.ensures

pub returns-in-Err : goal.returns-in-Err
returns-in-Err c = answers_stop _ _ _ c.in-Err.ensures
