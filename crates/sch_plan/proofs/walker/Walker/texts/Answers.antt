use Rattle.std.proofs.lemmas.Result.{err_from_is_err_and}
use Rattle.sch_plan.proofs.Walking.{answers_goes, answers_stop, answers_then}
use Rattle.sch_plan.proofs.walker.Walker.texts.Goals as goal

pub returns-in_err-diagnostics : goal.returns-in_err-diagnostics
returns-in_err-diagnostics c =
    let p = err_from_is_err_and c.from_residual.result c.from_residual.ensures.1 in
    rw (p.1, p.2) (answers_stop _ _ _ (rw c.as_slice.ensures at c.in_err-diagnostics.ensures))

pub returns-in-Err : goal.returns-in-Err
returns-in-Err c =
    answers_then _ _ _ _ (rw c.as_slice.ensures at c.in_ok-diagnostics.ensures) (answers_stop _ _ _ (rw c.as_slice-2.ensures at c.in-Err.ensures))

pub returns-in-Err-message : goal.returns-in-Err-message
returns-in-Err-message c =
    answers_then _ _ _ _ (rw c.as_slice.ensures at c.in_ok-diagnostics.ensures) (answers_then _ _ _ _ (rw c.as_slice-2.ensures at c.in-Ok.ensures) (answers_stop _ _ _ (rw c.as_slice-in-Ok.ensures at c.in-Err-message.ensures)))

pub returns-in-Ok-message : goal.returns-in-Ok-message
returns-in-Ok-message c =
    answers_then _ _ _ _ (rw c.as_slice.ensures at c.in_ok-diagnostics.ensures) (answers_then _ _ _ _ (rw c.as_slice-2.ensures at c.in-Ok.ensures) (answers_then _ _ _ _ (rw c.as_slice-in-Ok.ensures at c.in-Ok-message.ensures) (answers_goes _)))
