use Rattle.std.proofs.lemmas.Result.{err_from_is_err_and}
use Rattle.sch_plan.proofs.Walking.{answers_goes, answers_stop, answers_then}
use Rattle.sch_plan.proofs.walker.Walker.assertion_parts.Goals as goal

pub returns-in_err-test : goal.returns-in_err-test
returns-in_err-test c =
    let p = err_from_is_err_and c.from_residual.result c.from_residual.ensures.1 in
    rw (p.1, p.2) (answers_stop _ _ _ (rw c.as_str.ensures at c.in_err-test.ensures))

pub returns-in-Err : goal.returns-in-Err
returns-in-Err c = answers_then _ _ _ _ (rw c.as_str.ensures at c.in_ok-test.ensures) (answers_stop _ _ _ c.in-Err.ensures)

pub returns-in-Err-texts : goal.returns-in-Err-texts
returns-in-Err-texts c =
    answers_then _ _ _ _ (rw c.as_str.ensures at c.in_ok-test.ensures) (answers_then _ _ _ _ c.in-Ok.ensures (answers_stop _ _ _ c.in-Err-texts.ensures))

pub returns-in-Ok-texts : goal.returns-in-Ok-texts
returns-in-Ok-texts c =
    answers_then _ _ _ _ (rw c.as_str.ensures at c.in_ok-test.ensures) (answers_then _ _ _ _ c.in-Ok.ensures (answers_then _ _ _ _ c.in-Ok-texts.ensures (answers_goes _)))
