-- One node more has its outcome, or it is cut short.
use Rattle.std.proofs.Common.{ℕ, ◌+◌, ◌∙◌, length, refl, subst, sym, arith}
use Rattle.xp_meaning.specs.Evaluation.{Lets}
use Rattle.rule_run.specs.KeptMatches.{AreKeptFor}
use Rattle.edit_costs.specs.Costs.{Raised}
use Rattle.edit_costs.specs.Evaluating.{SpentOn, nodes_below}
use Rattle.edit_costs.proofs.RaisedLemmas.{raised_none}
use Rattle.state_run.specs.inner.Running.{HoldsTo, under_node}
use Rattle.state_run.proofs.NodeLemmas.{holds_next, node_more}
use Rattle.state_run.proofs.RaisedLemmas.{raised_turn, spent_turn}
use Rattle.state_run.proofs.outcomes.Outcomes.run_numbers.Goals as goal

pub loop-number-init : goal.loop-number-init
loop-number-init g c =
    let plan = c.args.at.now.run.plan.now in
    let T = c.args.at.now.run.caller.tree.now.nodes in
    record {
      lets = refl;
      matches = c.requires.matches;
      found = c.requires.so_far;
      raised = raised_none plan T c.args.steps.now;
    }

pub returns-in_err-run_node-clause-spent : goal.returns-in_err-run_node-clause-spent
returns-in_err-run_node-clause-spent g c =
    let plan = c.args.at.now.run.plan.now in
    let T = c.args.at.now.run.caller.tree.now.nodes in
    let p = c.args.at.now.pattern in
    spent_turn plan T (nodes_below T p) (under_node T p) (node_more T p) c.loop-number.number (length T) c.args.steps.now c.loop-number.steps
    c.run_node.new.steps
    (omega (arith, c.loop-number-test.true, c.numbers_made-number-end.ensures)) c.loop-number.invariant.raised
    (subst (λ (n : ℕ). SpentOn plan T (under_node T p n) c.loop-number.steps c.run_node.new.steps) c.from_number.ensures
    c.in_err-run_node.ensures.spent)

pub loop-number-preserved : goal.loop-number-preserved
loop-number-preserved g c =
    let plan = c.args.at.now.run.plan.now in
    let T = c.args.at.now.run.caller.tree.now.nodes in
    let p = c.args.at.now.pattern in
    let ran = c.in_ok-run_node.ensures in
    record {
      lets = ran.lets ∙ c.loop-number.invariant.lets;
      matches = subst (λ (L : Lets). AreKeptFor plan c.args.at.now.run.caller.tree.now p L c.run_node.new.matches) (sym ran.lets) ran.matches;
      found = subst (λ (n : ℕ). HoldsTo plan T p (n + 1) c.run_node.new.self.found) c.from_number.ensures ran.found;
      raised =
          raised_turn plan T (nodes_below T p) (under_node T p) (node_more T p) c.loop-number.number c.args.steps.now c.loop-number.steps
          c.run_node.new.steps c.loop-number.invariant.raised
          (subst (λ (n : ℕ). Raised plan T (under_node T p n) c.loop-number.steps c.run_node.new.steps) c.from_number.ensures ran.raised);
    }

pub returns-clause-found : goal.returns-clause-found
returns-clause-found g c =
    holds_next c.args.at.now.run.plan.now c.args.at.now.run.caller.tree.now.nodes c.args.at.now.pattern c.loop-number.number c.loop-number.self.found
    c.laws.ensures.ordered
    (omega (arith, c.loop-number-test.false, c.numbers_made-number-end.ensures)) c.loop-number.invariant.found
