use Rattle.std.proofs.lemmas.Result.{err_from_is_err_and}
use Rattle.sch_plan.proofs.Loops.{drop-at, every_end, every_go, every_refused, none-left}
use Rattle.sch_plan.proofs.scopes.Scopes.message.Goals as goal

pub returns-in_err-one_part : goal.returns-in_err-one_part
returns-in_err-one_part c =
    let p = err_from_is_err_and c.from_residual.result c.from_residual.ensures.1 in
    rw (p.1, p.2) (every_refused _ _ _ _ _ _ _ c.loop-part.invariant (drop-at _ _ c.part-item.result c.loop-part-test.true c.part-item.is) c.in_err-one_part.ensures)

pub loop-part-preserved : goal.loop-part-preserved
loop-part-preserved c =
    every_go _ _ _ _ _ _ _ _ c.loop-part.invariant (drop-at _ _ c.part-item.result c.loop-part-test.true c.part-item.is) c.in_ok-one_part.ensures c.in_ok-push.ensures.pushed

pub returns : goal.returns
returns c = every_end _ _ _ _ c.loop-part.invariant (none-left _ _ c.loop-part-test.false)
