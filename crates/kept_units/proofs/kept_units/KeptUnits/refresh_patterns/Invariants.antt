-- The refresh has come to the pattern.
use Rattle.kept_units.specs.inner.Refreshing.{PatternsRefreshed}
use Rattle.kept_units.proofs.kept_units.KeptUnits.refresh_patterns.Given as goal

abbrev pub invariant-loop-p : goal.invariant-loop-p
invariant-loop-p g l = PatternsRefreshed l.run.plan.now l.run.caller.tree.now.nodes l.p l.fn.self l.self l.fn.steps l.steps
