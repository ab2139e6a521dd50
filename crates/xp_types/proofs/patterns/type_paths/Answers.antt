use Rattle.std.proofs.Common.{refl}
use Rattle.std.proofs.lemmas.Result.{err_from_is_err_and}
use Rattle.xp_types.proofs.PatternLooping.{paths-begin, paths-end, paths-refuse, paths-stop, paths-go}
use Rattle.xp_types.proofs.patterns.type_paths.Goals as goal

pub loop-path-init : goal.loop-path-init
loop-path-init c = paths-begin _ _ _ c.new-typed.ensures.items

pub returns-in_err-from_root : goal.returns-in_err-from_root
returns-in_err-from_root c =
    let p = err_from_is_err_and c.from_residual.result c.from_residual.ensures.1 in
    rw (p.1, p.2) (paths-refuse _ _ _ _ c.path-item.result c.loop-path-test.true c.path-item.is c.loop-path.invariant _ c.in_err-from_root.ensures)

pub returns-in_err-steps : goal.returns-in_err-steps
returns-in_err-steps c =
    let p = err_from_is_err_and c.from_residual-in_err-steps.result c.from_residual-in_err-steps.ensures.1 in
    rw (p.1, p.2) (paths-stop _ _ _ _ c.path-item.result c.loop-path-test.true c.path-item.is c.loop-path.invariant _ _ c.in_ok-from_root.ensures (rw c.deref.ensures.value at c.in_err-steps.ensures))

pub loop-path-preserved : goal.loop-path-preserved
loop-path-preserved c =
    paths-go _ _ _ _ c.path-item.result c.loop-path-test.true c.path-item.is c.loop-path.invariant _ _ _ _ c.in_ok-from_root.ensures (rw c.deref.ensures.value at c.in_ok-steps.ensures) refl c.in_ok-push.ensures.items

pub returns : goal.returns
returns c = paths-end _ _ _ _ c.loop-path-test.false c.loop-path.invariant
