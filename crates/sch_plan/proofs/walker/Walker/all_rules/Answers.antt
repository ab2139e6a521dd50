use Rattle.std.proofs.Common.{◌≡◌, sym, ◌∙◌}
use Rattle.std.proofs.lemmas.Result.{err_from_is_err_and}
use Rattle.std.specs.Vec.Iter.{into_iter_items}
use Rattle.sch_plan.proofs.Loops.{every_end, every_go, every_refused, one-fewer}
use Rattle.sch_plan.proofs.walker.Walker.all_rules.Goals as goal

pub returns-in_err-one_rule-clause-compiled : goal.returns-in_err-one_rule-clause-compiled
returns-in_err-one_rule-clause-compiled c =
    let e : into_iter_items c.into_iter-rule-iterator.result ≡ c.args.rules = cc in
    let p = err_from_is_err_and c.from_residual.result c.from_residual.ensures.1 in
    rw (p.1, p.2, ← e) (every_refused _ _ _ _ _ _ _ c.loop-rule.invariant.0 c.in-Some.ensures.steps.0 (rw c.loop-rule.invariant.1 at c.in_err-one_rule.ensures.compiled))

pub loop-rule-preserved : goal.loop-rule-preserved
loop-rule-preserved c = (
  every_go _ _ _ _ _ _ _ _ c.loop-rule.invariant.0 c.in-Some.ensures.steps.0 (rw c.loop-rule.invariant.1 at c.in_ok-one_rule.ensures.compiled) c.in_ok-push.ensures.pushed,
  c.in_ok-one_rule.ensures.kept ∙ c.loop-rule.invariant.1,
  one-fewer _ _ _ _ _ c.in-Some.ensures.steps.0 c.in-Some.ensures.steps.1 c.loop-rule.invariant.2,
)

pub returns-clause-compiled : goal.returns-clause-compiled
returns-clause-compiled c =
    let e : into_iter_items c.into_iter-rule-iterator.result ≡ c.args.rules = cc in
    rw (← e) (every_end _ _ _ _ c.loop-rule.invariant.0 (sym c.loop-rule.invariant.2 ∙ c.in-None.ensures.steps.0))
