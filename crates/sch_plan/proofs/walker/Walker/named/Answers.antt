use Rattle.std.proofs.Common.{sym, ◌∙◌}
use Rattle.std.proofs.lemmas.Result.{err_from_is_err_and}
use Rattle.sch_plan.proofs.IdLemmas.{named-all, named-none, named-some}
use Rattle.sch_plan.proofs.Loops.{every_end, every_go, every_refused, every_same}
use Rattle.sch_plan.proofs.walker.Walker.named.Goals.{in-Some+in_ok-one_diagnostic-in-Some+in_ok-push-in-Some, in-None}
use Rattle.sch_plan.proofs.walker.Walker.named.Goals as goal

pub returns-in_err-one_diagnostic-in-Some : goal.returns-in_err-one_diagnostic-in-Some
returns-in_err-one_diagnostic-in-Some c =
    let p = err_from_is_err_and c.from_residual.result c.from_residual.ensures.1 in
    rw (p.1, p.2) (every_refused _ _ _ _ _ _ _ c.loop-id.invariant (named-some _ _ _ c.id-item.result _ c.loop-id-test.true c.id-item.is (sym (rw c.as_str.ensures at c.in-Some.ensures.value))) c.in_err-one_diagnostic-in-Some.ensures)

pub loop-id-preserved : goal.loop-id-preserved
loop-id-preserved c =
    elim c.match-get.branch [
      | in-Some+in_ok-one_diagnostic-in-Some+in_ok-push-in-Some w ↦ every_go _ _ _ _ _ _ _ _ c.loop-id.invariant (named-some _ _ _ c.id-item.result _ c.loop-id-test.true c.id-item.is (sym (rw c.as_str.ensures at w.in-Some.ensures.value))) w.in_ok-one_diagnostic-in-Some.ensures (w.list-is ∙ w.in_ok-push-in-Some.ensures.pushed)
      | in-None w ↦ every_same _ _ _ _ _ _ c.loop-id.invariant (named-none _ _ _ c.id-item.result c.loop-id-test.true c.id-item.is (sym (rw c.as_str.ensures at w.in-None.ensures.value))) w.list-is
    ]

pub returns : goal.returns
returns c =
    every_end _ _ _ _ c.loop-id.invariant (named-all _ _ _ c.loop-id-test.false)
