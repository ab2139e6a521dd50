-- The nodes so far have their outcomes.
use Rattle.std.proofs.Common.{◌≡◌}
use Rattle.rule_run.specs.KeptMatches.{AreKeptFor}
use Rattle.edit_costs.specs.Costs.{Raised}
use Rattle.edit_costs.specs.Evaluating.{nodes_below}
use Rattle.state_run.specs.inner.Running.{HoldsTo}
use Rattle.state_run.proofs.outcomes.Outcomes.run_numbers.Given as goal

abbrev pub invariant-loop-number : goal.invariant-loop-number
invariant-loop-number g l = record {
  lets : l.self.lets ≡ l.fn.self.lets;
  matches : AreKeptFor l.at.run.plan.now l.at.run.caller.tree.now l.at.pattern l.self.lets l.matches;
  found : HoldsTo l.at.run.plan.now l.at.run.caller.tree.now.nodes l.at.pattern l.number l.self.found;
  raised : Raised l.at.run.plan.now l.at.run.caller.tree.now.nodes (nodes_below l.at.run.caller.tree.now.nodes l.at.pattern l.number) l.fn.steps
      l.steps;
}
