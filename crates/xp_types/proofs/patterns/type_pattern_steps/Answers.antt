use Rattle.std.proofs.lemmas.Result.{err_from_is_err_and}
use Rattle.xp_types.proofs.PatternLooping.{pattern-steps-begin, pattern-steps-end, pattern-steps-stop, pattern-steps-go}
use Rattle.xp_types.proofs.patterns.type_pattern_steps.Goals as goal

pub loop-step-init : goal.loop-step-init
loop-step-init c = pattern-steps-begin _ _ _ c.new-typed.ensures.items

pub returns-in_err-type_pattern_step : goal.returns-in_err-type_pattern_step
returns-in_err-type_pattern_step c =
    let p = err_from_is_err_and c.from_residual.result c.from_residual.ensures.1 in
    rw (p.1, p.2) (pattern-steps-stop _ _ _ _ c.step-item.result c.loop-step-test.true c.step-item.is c.loop-step.invariant _ c.in_err-type_pattern_step.ensures)

pub loop-step-preserved : goal.loop-step-preserved
loop-step-preserved c =
    pattern-steps-go _ _ _ _ c.step-item.result c.loop-step-test.true c.step-item.is c.loop-step.invariant _ _ c.in_ok-type_pattern_step.ensures c.in_ok-push.ensures.items

pub returns : goal.returns
returns c = pattern-steps-end _ _ _ _ c.loop-step-test.false c.loop-step.invariant
