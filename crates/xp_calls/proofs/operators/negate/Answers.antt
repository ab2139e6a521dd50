use Rattle.std.proofs.Common.{◌∙◌, ◌<◌, sym, arith}
use Rattle.std.proofs.lemmas.Result.{err_from_is_err_and}
use Rattle.xp_calls.proofs.Negations.{negated_more, negated_fault, negated_end}
use Rattle.xp_calls.proofs.operators.negate.Goals as goal

pub returns-in_err-number : goal.returns-in_err-number
returns-in_err-number c = let p = err_from_is_err_and c.from_residual.result c.from_residual.ensures.1 in
    rw (p.1, p.2) (sym (c.loop-left.invariant ∙ negated_fault _ _ _ c.loop-left-test.true c.in_err-number.ensures.value))

pub loop-left-preserved : goal.loop-left-preserved
loop-left-preserved c = c.loop-left.invariant ∙ negated_more _ _ _ c.loop-left-test.true c.in_ok-number.ensures.value

pub returns : goal.returns
returns c = sym (c.loop-left.invariant ∙ negated_end _ _ (λ (some : 0 < c.loop-left.left). omega (arith, some, c.loop-left-test.false)))
