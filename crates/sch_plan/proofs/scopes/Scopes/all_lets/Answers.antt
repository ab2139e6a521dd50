use Rattle.std.proofs.Common.{◌≡◌, sym, ◌∙◌}
use Rattle.std.proofs.lemmas.Result.{err_from_is_err_and}
use Rattle.std.specs.Vec.Iter.{into_iter_items}
use Rattle.sch_plan.proofs.Loops.{each_end, each_go, each_refused, one-fewer}
use Rattle.sch_plan.proofs.scopes.Scopes.all_lets.Goals as goal

pub returns-in_err-one_let : goal.returns-in_err-one_let
returns-in_err-one_let c =
    let e : into_iter_items c.into_iter-its-iterator.result ≡ c.args.lets = cc in
    let p = err_from_is_err_and c.from_residual.result c.from_residual.ensures.1 in
    rw (p.1, p.2, ← e) (each_refused _ _ _ _ _ _ _ _ _ c.loop-its.invariant.0 c.in-Some.ensures.steps.0 c.in_err-one_let.ensures)

pub loop-its-preserved : goal.loop-its-preserved
loop-its-preserved c = (
  each_go _ _ _ _ _ _ _ _ _ _ _ c.loop-its.invariant.0 c.in-Some.ensures.steps.0 c.in_ok-one_let.ensures c.in_ok-push.ensures.pushed,
  one-fewer _ _ _ _ _ c.in-Some.ensures.steps.0 c.in-Some.ensures.steps.1 c.loop-its.invariant.1,
)

pub returns : goal.returns
returns c =
    let e : into_iter_items c.into_iter-its-iterator.result ≡ c.args.lets = cc in
    rw (← e) (each_end _ _ _ _ _ _ c.loop-its.invariant.0 (sym c.loop-its.invariant.1 ∙ c.in-None.ensures.steps.0))
