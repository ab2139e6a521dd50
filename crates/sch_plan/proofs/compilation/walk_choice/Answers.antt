use Rattle.sch_plan.proofs.Walking.{answers_memory}
use Rattle.sch_plan.proofs.compilation.walk_choice.Goals as goal

pub returns-in-Err : goal.returns-in-Err
returns-in-Err c = λ head. answers_memory _
