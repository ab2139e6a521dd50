-- By what is kept.
use Rattle.std.proofs.Common.{OnOk, subst}
use Rattle.xp_watch.specs.Kept.{IsFresh}
use Rattle.xp_watch.specs.Watching.{Watching}
use Rattle.xp_watch.specs.inner.Held.{held_by}
use Rattle.xp_watch.proofs.watch.Watch.refresh.Goals as goal

pub returns-clause-fresh : goal.returns-clause-fresh
returns-clause-fresh g c =
    subst (λ (s : Watching). OnOk c.refresh.result (IsFresh s.tree.nodes s.expressions (held_by c.refresh.new.self))) c.self.view_is c.refresh.ensures.fresh
