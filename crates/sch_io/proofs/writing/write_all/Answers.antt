use Rattle.std.proofs.Common.{arith, length-drop, ◌∙◌}
use Rattle.std.proofs.lemmas.Result.{err_from_is_err_and}
use Rattle.sch_io.proofs.Fronts.{rest_from, appends_more, wrote_until, wrote_until_stuck}
use Rattle.sch_io.proofs.writing.write_all.Goals as goal

pub returns-in_err-n : goal.returns-in_err-n
returns-in_err-n g c =
    let p = err_from_is_err_and c.from_residual.result c.from_residual.ensures.1 in
    rw (p.1) (wrote_until _ _ _ _ _ c.loop-done.invariant.wrote c.in_err-n.ensures.appended c.in_err-n.ensures.failed)

pub returns-then-n-eq0 : goal.returns-then-n-eq0
returns-then-n-eq0 g c =
    let appended = rw rest_from at c.in_ok-n.ensures.appended in
    let stuck = rw rest_from at c.in_ok-n.ensures.stuck in
    wrote_until_stuck _ _ _ _ _ _ c.if-n-eq0.true (omega arith) c.loop-done.invariant.wrote appended stuck

pub loop-done-preserved : goal.loop-done-preserved
loop-done-preserved g c =
    let appended = rw rest_from at c.in_ok-n.ensures.appended in
    let bound = rw rest_from at c.in_ok-n.ensures.bound in
    record {
      within = let most = simp length-drop at bound in omega arith;
      wrote = record {
        same = c.in_ok-n.ensures.moved (omega arith) ∙ c.loop-done.invariant.wrote.same;
        grown = appends_more _ _ _ _ _ _ c.loop-done.invariant.wrote.grown appended;
      };
    }
