-- The last paths are looked at first.
use Rattle.std.proofs.Common.{◌≡◌, arith, drop, length, subst, sym}
use Rattle.xp_outcome.proofs.Runs.{no_item}
use Rattle.xp_typed_tree.specs.TypedView.{path_seen, paths_seen}
use Rattle.xslt_match.specs.inner.Refused.{PathsRefuse}
use Rattle.xslt_match.proofs.Classes.{more_refuse, none_refuses}
use Rattle.xslt_match.proofs.OnePath.{item_before}
use Rattle.xslt_match.proofs.refusing.levels_of_paths.Goals as goal

pub loop-left-init : goal.loop-left-init
loop-left-init c = record {
  within = omega arith;
  refuse = subst (λ ps. PathsRefuse c.args.tree.now (paths_seen ps) c.args.n 0) (sym (no_item c.args.paths.now (length c.args.paths.now) (omega arith))) (none_refuses c.args.tree.now c.args.n);
}

pub loop-left-preserved : goal.loop-left-preserved
loop-left-preserved c =
    let C = c.args.tree.now in
    let path = c.index-paths-left.result in
    let later = drop c.loop-left.left c.args.paths.now in
    record {
      within = omega (arith, c.loop-left.invariant.within);
      refuse = subst (λ ps. PathsRefuse C (paths_seen ps) c.args.n c.max-levels.result)
          (sym (item_before c.args.paths.now c.loop-left.left path c.loop-left.invariant.within c.loop-left-test.true c.index-paths-left.is))
          (more_refuse C c.args.n (path_seen path) (paths_seen later) c.in_ok-here.here c.loop-left.levels c.max-levels.result c.max-levels.ensures
          c.in_ok-here.ensures c.loop-left.invariant.refuse);
    }

pub returns : goal.returns
returns c =
    let none : c.loop-left.left ≡ 0 = omega (arith, c.loop-left-test.false) in
    subst (λ i. PathsRefuse c.args.tree.now (paths_seen (drop i c.args.paths.now)) c.args.n c.loop-left.levels) none c.loop-left.invariant.refuse
