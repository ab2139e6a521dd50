-- The nodes under one pattern more have their outcomes, or they are cut short.
use Rattle.std.proofs.Common.{◌<◌, ◌∙◌, length, arith}
use Rattle.edit_costs.specs.Evaluating.{patterns_below}
use Rattle.edit_costs.specs.Units.{node_units}
use Rattle.edit_costs.proofs.UnitLemmas.{pattern_more}
use Rattle.state_run.proofs.RaisedLemmas.{raised_turn, spent_turn}
use Rattle.state_run.proofs.outcomes.Outcomes.run_patterns.Goals as goal

pub returns-in_err-run_nodes-clause-spent : goal.returns-in_err-run_nodes-clause-spent
returns-in_err-run_nodes-clause-spent g c =
    let T = c.args.run.now.caller.tree.now.nodes in
    let within : c.loop-p.p < length c.args.run.now.plan.now.patterns = omega (arith, c.loop-p-test.true, c.pattern_count-p-end.ensures) in
    spent_turn c.args.run.now.plan.now T (patterns_below T) (node_units T) (pattern_more T) c.loop-p.p (length c.args.run.now.plan.now.patterns)
    c.args.steps.now c.loop-p.steps c.run_nodes.new.steps within c.loop-p.invariant.raised c.in_err-run_nodes.ensures.spent

pub loop-p-preserved : goal.loop-p-preserved
loop-p-preserved g c =
    let T = c.args.run.now.caller.tree.now.nodes in
    record {
      lets = c.in_ok-run_nodes.ensures.lets ∙ c.loop-p.invariant.lets;
      found = c.in_ok-run_nodes.ensures.found;
      raised = raised_turn c.args.run.now.plan.now T (patterns_below T) (node_units T) (pattern_more T) c.loop-p.p
          c.args.steps.now c.loop-p.steps c.run_nodes.new.steps c.loop-p.invariant.raised c.in_ok-run_nodes.ensures.raised;
    }
