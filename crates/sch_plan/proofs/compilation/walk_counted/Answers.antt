use Rattle.sch_plan.proofs.Walking.{answers_memory}
use Rattle.sch_plan.proofs.compilation.walk_counted.Goals as goal

pub returns-in-Ok : goal.returns-in-Ok
returns-in-Ok c =
    λ head. rw (c.in-Ok.ensures.seen, c.in-Ok.ensures.notes, c.in-Ok.ensures.count, c.requires) at (c.walk_all-walked.ensures head c.args.prefixes.now)

pub returns-in-Err : goal.returns-in-Err
returns-in-Err c = λ head. answers_memory _
