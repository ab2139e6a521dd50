-- One let more has its outcome, or it is cut short.
use Rattle.std.proofs.Common.{◌<◌, ◌∷◌, [], length, arith}
use Rattle.edit_costs.specs.Evaluating.{lets_below}
use Rattle.edit_costs.specs.Units.{in_force}
use Rattle.edit_costs.proofs.UnitLemmas.{let_more}
use Rattle.state_run.proofs.RaisedLemmas.{raised_turn, spent_turn}
use Rattle.state_run.proofs.outcomes.run_lets.Goals as goal

pub returns-in_err-set_let-clause-spent : goal.returns-in_err-set_let-clause-spent
returns-in_err-set_let-clause-spent g c =
    let within : c.loop-slot.slot < length c.args.run.now.plan.now.lets = omega (arith, c.loop-slot-test.true, c.let_count-slot-end.ensures) in
    spent_turn c.args.run.now.plan.now c.args.run.now.caller.tree.now.nodes lets_below (λ slot. in_force slot ∷ []) let_more c.loop-slot.slot
    (length c.args.run.now.plan.now.lets)
    c.args.steps.now c.loop-slot.steps c.set_let.new.steps within c.loop-slot.invariant.raised c.in_err-set_let.ensures.spent

pub loop-slot-preserved : goal.loop-slot-preserved
loop-slot-preserved g c = record {
  lets = c.in_ok-set_let.ensures.lets;
  raised = raised_turn c.args.run.now.plan.now c.args.run.now.caller.tree.now.nodes lets_below (λ slot. in_force slot ∷ []) let_more c.loop-slot.slot
      c.args.steps.now c.loop-slot.steps c.set_let.new.steps c.loop-slot.invariant.raised c.in_ok-set_let.ensures.raised;
}
