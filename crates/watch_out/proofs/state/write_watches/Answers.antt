-- Each watch in its turn; one that was not told whole leaves a front of all.
use Rattle.std.proofs.Common.{◌<◌, ◌∙◌, Err, ap, length, arith}
use Rattle.std.proofs.Math.Seq.{take_all}
use Rattle.std.proofs.lemmas.List.FromFn.{length-range_with_len}
use Rattle.std.proofs.lemmas.Result.{err_from_is_err_and}
use Rattle.svrl_out.proofs.ReportLemmas.{reported_cut, reported_next}
use Rattle.xp_watch.specs.Watched.{watches_of}
use Rattle.watch_out.specs.Lines.{watch_lines}
use Rattle.watch_out.proofs.WatchLemmas.{number_at, number_within}
use Rattle.watch_out.proofs.state.write_watches.Goals as goal

pub loop-k-preserved : goal.loop-k-preserved
loop-k-preserved g c =
    let exprs = c.args.watch.now.expressions in
    let less : c.loop-k.k < length exprs = omega (arith, c.loop-k-test.true, c.loop-k.auto.k-end, c.len-k-end.ensures) in
    reported_next (watch_lines c.args.watch.now.tree.nodes exprs) (watches_of exprs) c.loop-k.k c.loop-k.k (number_at exprs c.loop-k.k less) (number_within exprs c.loop-k.k less)
    c.loop-k.invariant c.in_ok-write_watch.ensures

pub returns-in_err-write_watch : goal.returns-in_err-write_watch
returns-in_err-write_watch g c =
    let error = err_from_is_err_and c.from_residual.result c.from_residual.ensures.1 in
    let exprs = c.args.watch.now.expressions in
    let less : c.loop-k.k < length exprs = omega (arith, c.loop-k-test.true, c.loop-k.auto.k-end, c.len-k-end.ensures) in
    reported_cut (watch_lines c.args.watch.now.tree.nodes exprs) (watches_of exprs) c.loop-k.k c.loop-k.k c.from_residual.result (error.1 ∙ ap Err error.2)
    (number_at exprs c.loop-k.k less) (number_within exprs c.loop-k.k less) c.loop-k.invariant c.in_err-write_watch.ensures

pub returns : goal.returns
returns g c =
    let exprs = c.args.watch.now.expressions in
    rw (take_all c.loop-k.k (watches_of exprs) (omega (arith, length-range_with_len 0 (length exprs), c.loop-k-test.false, c.loop-k.auto.k-end, c.len-k-end.ensures))) at c.loop-k.invariant
