-- One watch more was come to, or it is cut short.
use Rattle.std.proofs.Common.{◌<◌, length, arith}
use Rattle.xp_watch.specs.inner.Held.{held_by}
use Rattle.xp_watch.specs.inner.Refreshing.{Refreshes, Stops}
use Rattle.xp_watch.proofs.KeptLemmas.{on_err}
use Rattle.xp_watch.proofs.RefreshLemmas.{if_there, reached_on, reached_start, stops_cut}
use Rattle.xp_watch.proofs.kept.KeptWatches.refresh_watches.Goals as goal

pub loop-k-init : goal.loop-k-init
loop-k-init g c = reached_start c.args.tree.now.nodes c.args.list.now (held_by c.args.self.now) c.args.steps.now c.requires

pub refresh_watch-requires-clause-value : goal.refresh_watch-requires-clause-value
refresh_watch-requires-clause-value g c = omega (arith, c.loop-k.invariant.1.values, c.loop-k-test.true, c.len-k-end.ensures)

pub refresh_watch-requires-clause-place : goal.refresh_watch-requires-clause-place
refresh_watch-requires-clause-place g c = omega (arith, c.loop-k.invariant.1.reads, c.loop-k-test.true, c.len-k-end.ensures)

pub loop-k-preserved : goal.loop-k-preserved
loop-k-preserved g c =
    let T = c.args.tree.now.nodes in
    let exprs = c.args.list.now in
    let old = held_by c.args.self.now in
    let mid = held_by c.loop-k.self in
    let new = held_by c.refresh_watch.new.self in
    let low : c.loop-k.k < length c.args.list.now = omega (arith, c.loop-k-test.true, c.len-k-end.ensures) in
    let there = if_there (λ expr. Refreshes T expr c.loop-k.k mid new c.loop-k.steps c.refresh_watch.new.steps) exprs c.loop-k.k low
    c.in_ok-refresh_watch.ensures.refreshes in
    reached_on T exprs c.loop-k.k there.0 there.1 old mid new c.args.steps.now c.loop-k.steps c.refresh_watch.new.steps c.requires.right
    c.loop-k.invariant there.2

pub returns-in_err-refresh_watch-clause-cut : goal.returns-in_err-refresh_watch-clause-cut
returns-in_err-refresh_watch-clause-cut g c =
    let T = c.args.tree.now.nodes in
    let exprs = c.args.list.now in
    let old = held_by c.args.self.now in
    let mid = held_by c.loop-k.self in
    let new = held_by c.refresh_watch.new.self in
    let low : c.loop-k.k < length c.args.list.now = omega (arith, c.loop-k-test.true, c.len-k-end.ensures) in
    let there = if_there (λ expr. Stops T expr c.loop-k.k mid new c.loop-k.steps c.refresh_watch.new.steps) exprs c.loop-k.k low
    c.in_err-refresh_watch.ensures.stops in
    on_err c.from_residual.result _
    (stops_cut T exprs c.loop-k.k there.0 there.1 old mid new c.args.steps.now c.loop-k.steps c.refresh_watch.new.steps c.requires.right
    c.loop-k.invariant there.2)
