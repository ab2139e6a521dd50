use Rattle.std.proofs.Common.{arith}
use Rattle.xp_parse.proofs.Exits.{exits}
use Rattle.xp_parse.proofs.PathSteps.{steps_start, steps_fail, steps_more, steps_found, join_shorter}
use Rattle.xp_parse.proofs.parser.Parser.more_step_patterns.Goals as goal

pub loop-join-init : goal.loop-join-init
loop-join-init c = (omega arith, λ a closed. steps_start a _ _ closed)

pub returns-in_err-step : goal.returns-in_err-step
returns-in_err-step c =
    λ a closed. exits _ _ _ c.in_err-step.field-0.0 c.from_residual.ensures.1
    (steps_fail a _ _ _ _ _ _ _ _ (c.loop-join.invariant.1 a closed) c.in-Some.ensures c.in_err-step.ensures)

pub loop-join-preserved : goal.loop-join-preserved
loop-join-preserved c =
    let shorter = join_shorter _ _ _ c.in-Some.ensures in (
      omega (arith, c.loop-join.invariant.0, shorter, c.in_ok-step.ensures.shorter),
      λ a closed. steps_more a _ _ _ _ _ _ _ _ _ (c.loop-join.invariant.1 a closed) c.in-Some.ensures c.in_ok-step.ensures c.in_ok-push.ensures.items,
    )

pub returns : goal.returns
returns c = λ a closed. steps_found a _ _ _ _ _ (c.loop-join.invariant.1 a closed) c.in_default.ensures
