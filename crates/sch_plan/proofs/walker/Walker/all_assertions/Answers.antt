use Rattle.std.proofs.Common.{◌≡◌, sym, ◌∙◌}
use Rattle.std.proofs.lemmas.Result.{err_from_is_err_and}
use Rattle.std.specs.Vec.Iter.{into_iter_items}
use Rattle.sch_plan.proofs.Loops.{every_end, every_go, every_refused, one-fewer}
use Rattle.sch_plan.proofs.walker.Walker.all_assertions.Goals as goal

pub returns-in_err-one_assertion : goal.returns-in_err-one_assertion
returns-in_err-one_assertion c =
    let e : into_iter_items c.into_iter-its-iterator.result ≡ c.args.assertions = cc in
    let p = err_from_is_err_and c.from_residual.result c.from_residual.ensures.1 in
    rw (p.1, p.2, ← e) (every_refused _ _ _ _ _ _ _ c.loop-its.invariant.0 c.in-Some.ensures.steps.0 c.in_err-one_assertion.ensures)

pub loop-its-preserved : goal.loop-its-preserved
loop-its-preserved c = (
  every_go _ _ _ _ _ _ _ _ c.loop-its.invariant.0 c.in-Some.ensures.steps.0 c.in_ok-one_assertion.ensures c.in_ok-push.ensures.pushed,
  one-fewer _ _ _ _ _ c.in-Some.ensures.steps.0 c.in-Some.ensures.steps.1 c.loop-its.invariant.1,
)

pub returns : goal.returns
returns c =
    let e : into_iter_items c.into_iter-its-iterator.result ≡ c.args.assertions = cc in
    rw (← e) (every_end _ _ _ _ c.loop-its.invariant.0 (sym c.loop-its.invariant.1 ∙ c.in-None.ensures.steps.0))
