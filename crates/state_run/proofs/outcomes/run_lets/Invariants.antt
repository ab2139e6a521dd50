-- The lets so far have their outcomes.
use Rattle.std.proofs.Common.{◌≡◌, take}
use Rattle.sch_units.specs.Units.{lets_of}
use Rattle.edit_costs.specs.Costs.{Raised}
use Rattle.edit_costs.specs.Evaluating.{lets_below}
use Rattle.state_run.proofs.outcomes.run_lets.Given as goal

abbrev pub invariant-loop-slot : goal.invariant-loop-slot
invariant-loop-slot g l = record {
  lets : l.lets ≡ take l.slot (lets_of l.run.plan.now l.run.caller.tree.now.nodes);
  raised : Raised l.run.plan.now l.run.caller.tree.now.nodes (lets_below l.slot) l.fn.steps l.steps;
}
