use Rattle.std.proofs.lemmas.Result.{err_from_is_err_and}
use Rattle.xp_types.proofs.PatternLooping.{pattern-step-unresolved, pattern-step-stop, pattern-step-made}
use Rattle.xp_types.proofs.patterns.type_pattern_step.Goals as goal

pub returns-in_err-test : goal.returns-in_err-test
returns-in_err-test c =
    let p = err_from_is_err_and c.from_residual.result c.from_residual.ensures.1 in
    rw (p.1, p.2) (pattern-step-unresolved _ c.args.step.now _ c.in_err-test.ensures)

pub returns-in-Err : goal.returns-in-Err
returns-in-Err c = pattern-step-stop _ c.args.step.now _ _ c.in_ok-test.ensures (rw c.deref.ensures.value at c.in-Err.ensures)

pub returns-in-Ok : goal.returns-in-Ok
returns-in-Ok c =
    pattern-step-made _ c.args.step.now _ _ _ _ c.in_ok-test.ensures (rw c.deref.ensures.value at c.in-Ok.ensures) c.pattern_axis-axis.ensures c.new.ensures
