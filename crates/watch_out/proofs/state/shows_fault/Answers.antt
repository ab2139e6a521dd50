-- One of them does, or none.
use Rattle.std.proofs.Common.{◌<◌, length, arith, sym}
use Rattle.std.proofs.Math.Seq.{take_all}
use Rattle.std.proofs.lemmas.List.FromFn.{length-range_with_len}
use Rattle.xp_watch.specs.Costs.{has_fault}
use Rattle.xp_watch.specs.Watched.{watches_of}
use Rattle.watch_out.proofs.WatchLemmas.{none_more, some_at}
use Rattle.watch_out.proofs.state.shows_fault.Goals as goal

pub loop-k-preserved : goal.loop-k-preserved
loop-k-preserved c =
    let exprs = c.args.watch.now.expressions in
    let less : c.loop-k.k < length exprs = omega (arith, c.loop-k-test.true, c.loop-k.auto.k-end, c.len-k-end.ensures) in
    none_more (has_fault c.args.watch.now.tree.nodes exprs) exprs c.loop-k.k c.has_fault.result less c.loop-k.invariant c.has_fault.ensures c.if-has_fault.false

pub returns-then-has_fault : goal.returns-then-has_fault
returns-then-has_fault c =
    let exprs = c.args.watch.now.expressions in
    let less : c.loop-k.k < length exprs = omega (arith, c.loop-k-test.true, c.loop-k.auto.k-end, c.len-k-end.ensures) in
    sym (some_at (has_fault c.args.watch.now.tree.nodes exprs) exprs c.loop-k.k c.has_fault.result less c.has_fault.ensures c.if-has_fault.true)

pub returns : goal.returns
returns c =
    let exprs = c.args.watch.now.expressions in
    sym (rw (take_all c.loop-k.k (watches_of exprs) (omega (arith, length-range_with_len 0 (length exprs), c.loop-k-test.false, c.loop-k.auto.k-end, c.len-k-end.ensures))) at c.loop-k.invariant)
