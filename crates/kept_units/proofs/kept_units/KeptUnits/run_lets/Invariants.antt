-- The refresh has come to the let.
use Rattle.kept_units.specs.inner.Refreshing.{LetsRefreshed}
use Rattle.kept_units.proofs.kept_units.KeptUnits.run_lets.Given as goal

abbrev pub invariant-loop-l : goal.invariant-loop-l
invariant-loop-l g l = LetsRefreshed l.run.plan.now l.run.caller.tree.now.nodes l.l l.fn.self l.self l.changed.items l.fn.steps l.steps
