-- The refresh has come to the node.
use Rattle.std.proofs.Common.{◌-◌, ◌≤◌}
use Rattle.rule_run.specs.KeptMatches.{AreKeptFor}
use Rattle.kept_units.specs.inner.Refreshing.{NodesRefreshed}
use Rattle.kept_units.proofs.kept_units.KeptUnits.refresh_nodes.Given as goal

abbrev pub invariant-loop-number : goal.invariant-loop-number
invariant-loop-number g l = record {
  matches : AreKeptFor l.at.run.plan.now l.at.run.caller.tree.now l.at.pattern l.self.lets l.matches;
  so_far : NodesRefreshed l.at.run.plan.now l.at.run.caller.tree.now.nodes l.at.pattern l.number l.fn.self l.self l.fn.steps l.steps;
  within : l.number ≤ l.numbers;
}

abbrev pub decreases-loop-number : goal.decreases-loop-number
decreases-loop-number g l = l.numbers - l.number
