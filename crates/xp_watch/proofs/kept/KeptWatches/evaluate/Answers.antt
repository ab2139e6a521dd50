-- What was given is kept.
use Rattle.std.proofs.lemmas.Result.{on_ok_weaker}
use Rattle.xp_watch.specs.inner.Held.{held_by}
use Rattle.xp_watch.proofs.KeptLemmas.{keeps_run}
use Rattle.xp_watch.proofs.kept.KeptWatches.evaluate.Goals as goal

pub returns-clause-runs : goal.returns-clause-runs
returns-clause-runs g c =
    on_ok_weaker c.keep.result
    (keeps_run c.args.tree.now.nodes c.args.expr.now c.in_ok-given.given c.args.k (held_by c.args.self.now) (held_by c.keep.new.self) c.args.steps.now
    c.evaluate.new.steps c.in_ok-given.ensures.gives c.in_ok-given.ensures.took)
    c.keep.ensures.keeps
