-- The refresh has come to the watch.
use Rattle.xp_watch.specs.inner.Held.{held_by}
use Rattle.xp_watch.specs.inner.Refreshing.{ReachedAt}
use Rattle.xp_watch.proofs.kept.KeptWatches.refresh_watches.Given as goal

abbrev pub invariant-loop-k : goal.invariant-loop-k
invariant-loop-k g l = ReachedAt l.tree.nodes l.list l.k (held_by l.fn.self) (held_by l.self) l.fn.steps l.steps
