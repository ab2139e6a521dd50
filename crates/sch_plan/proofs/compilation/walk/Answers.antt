use Rattle.std.proofs.lemmas.Result.{err_from_is_err_and}
use Rattle.sch_plan.proofs.Walking.{answers_memory}
use Rattle.sch_plan.proofs.compilation.walk.Goals as goal

pub returns-in_err-phase : goal.returns-in_err-phase
returns-in_err-phase c =
    let p = err_from_is_err_and c.from_residual.result c.from_residual.ensures.1 in
    rw (p.1, p.2) (rw c.as_slice.ensures at (c.in_err-phase.ensures c.args.declared.head))

pub returns-in_err-plan : goal.returns-in_err-plan
returns-in_err-plan c =
    let p = err_from_is_err_and c.from_residual-in_err-plan.result c.from_residual-in_err-plan.ensures.1 in
    rw (p.1, p.2) (answers_memory _)

pub returns : goal.returns
returns c = rw c.in_ok-plan.ensures (rw c.as_slice.ensures at (c.in_ok-phase.ensures c.args.declared.head))
