use Rattle.std.proofs.lemmas.Result.{err_from_is_err_and}
use Rattle.sch_plan.proofs.Walking.{answers_goes, answers_stop, answers_then}
use Rattle.sch_plan.proofs.scopes.Scopes.optional_path.Goals as goal

pub returns-in_err-expr-in-Some : goal.returns-in_err-expr-in-Some
returns-in_err-expr-in-Some c =
    let p = err_from_is_err_and c.from_residual.result c.from_residual.ensures.1 in
    rw (c.in-Some.is, p.1, p.2) (answers_stop _ _ _ (rw c.as_str.ensures at c.in_err-expr-in-Some.ensures))

pub returns-in_ok-expr-in-Some : goal.returns-in_ok-expr-in-Some
returns-in_ok-expr-in-Some c =
    rw c.in-Some.is (answers_then _ _ _ _ (rw c.as_str.ensures at c.in_ok-expr-in-Some.ensures) (answers_goes _))
