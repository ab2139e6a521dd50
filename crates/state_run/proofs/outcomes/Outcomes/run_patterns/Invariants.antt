-- The nodes under the patterns so far have their outcomes.
use Rattle.std.proofs.Common.{◌≡◌}
use Rattle.edit_costs.specs.Costs.{Raised}
use Rattle.edit_costs.specs.Evaluating.{patterns_below}
use Rattle.state_run.specs.inner.Running.{HoldsTo}
use Rattle.state_run.proofs.outcomes.Outcomes.run_patterns.Given as goal

abbrev pub invariant-loop-p : goal.invariant-loop-p
invariant-loop-p g l = record {
  lets : l.self.lets ≡ l.fn.self.lets;
  found : HoldsTo l.run.plan.now l.run.caller.tree.now.nodes l.p 0 l.self.found;
  raised : Raised l.run.plan.now l.run.caller.tree.now.nodes (patterns_below l.run.caller.tree.now.nodes l.p) l.fn.steps l.steps;
}
