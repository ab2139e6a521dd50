use Rattle.std.proofs.lemmas.Result.{err_from_is_err_and}
use Rattle.sch_plan.proofs.Walking.{answers_goes, answers_stop, answers_then}
use Rattle.sch_plan.proofs.compilation.walk_all.Goals as goal

pub returns-in_err-lets : goal.returns-in_err-lets
returns-in_err-lets c =
    let p = err_from_is_err_and c.from_residual.result c.from_residual.ensures.1 in
    λ head ns. rw (p.1, p.2) (answers_stop _ _ _ c.in_err-lets.ensures)

pub returns-in_err-patterns : goal.returns-in_err-patterns
returns-in_err-patterns c =
    let p = err_from_is_err_and c.from_residual-in_err-patterns.result c.from_residual-in_err-patterns.ensures.1 in
    λ head ns. rw (p.1, p.2) (answers_then _ _ _ _ c.in_ok-lets.ensures (answers_stop _ _ _ c.in_err-patterns.ensures))

pub returns : goal.returns
returns c =
    λ head ns. answers_then _ _ _ _ c.in_ok-lets.ensures (answers_then _ _ _ _ c.in_ok-patterns.ensures (answers_goes _))
