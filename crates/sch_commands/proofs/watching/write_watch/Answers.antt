-- The stale ones are evaluated, and then all are told.
use Rattle.std.proofs.lemmas.Result.{err_from_is_err_and}
use Rattle.watch_out.specs.Lines.{watch_text}
use Rattle.sch_commands.specs.inner.Sessions.{IsWatched}
use Rattle.sch_commands.proofs.EndLemmas.{memory_written, on_ok}
use Rattle.sch_commands.proofs.WatchLemmas.{refreshed-as, rose-watching}
use Rattle.sch_commands.proofs.watching.write_watch.Goals as goal

pub returns-in_err-refresh-clause-wrote : goal.returns-in_err-refresh-clause-wrote
returns-in_err-refresh-clause-wrote g c =
    let error = err_from_is_err_and c.from_residual.result c.from_residual.ensures.1 in
    memory_written (g.O.Sink.log c.args.out.now) (watch_text c.args.watch.now.tree.nodes c.args.watch.now.expressions) c.from_residual.result error.0 error.1 error.2

pub write_given-requires : goal.write_given-requires
write_given-requires g c = refreshed-as c.args.watch.now c.refresh.new.self c.in_ok-refresh.ensures.tree c.in_ok-refresh.ensures.expressions c.in_ok-refresh.ensures.fresh

pub returns-clause-wrote : goal.returns-clause-wrote
returns-clause-wrote g c = rw (c.in_ok-refresh.ensures.tree, c.in_ok-refresh.ensures.expressions) at c.write_given.ensures.wrote

pub returns-clause-shown : goal.returns-clause-shown
returns-clause-shown g c = rw (c.in_ok-refresh.ensures.tree, c.in_ok-refresh.ensures.expressions) at c.write_given.ensures.shown

pub returns-clause-fresh : goal.returns-clause-fresh
returns-clause-fresh g c =
    on_ok (IsWatched c.refresh.new.self) c.write_given.result
    (refreshed-as c.args.watch.now c.refresh.new.self c.in_ok-refresh.ensures.tree c.in_ok-refresh.ensures.expressions c.in_ok-refresh.ensures.fresh)

pub returns-clause-rose : goal.returns-clause-rose
returns-clause-rose g c =
    rose-watching c.args.watch.now c.args.steps.now c.refresh.new.steps c.write_given.result (rw (c.in_ok-refresh.ensures.tree, c.in_ok-refresh.ensures.expressions) at c.write_given.ensures.shown) c.in_ok-refresh.ensures.raised
