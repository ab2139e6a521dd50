use Rattle.std.proofs.Common.{◌∷◌, [], ◌∙◌, ap, sym, option_copied}
use Rattle.xp_outcome.specs.Evaluation.{Evaluation, bind}
use Rattle.xp_outcome.proofs.Outcomes.{bind-done}
use Rattle.xp_outcome.proofs.Runs.{ran_alike}
use Rattle.xp_values.specs.declared.values.Value.{Value}
use Rattle.xp_values.specs.declared.values.Value.TheVariants.{NodeSet}
use Rattle.xp_values.specs.declared.values.EvalFault.{EvalFault}
use Rattle.xp_meaning.specs.Functions.{applied}
use Rattle.xp_meaning.specs.Evaluation.{slot_value}
use Rattle.xp_eval.proofs.Views.{slot_given}
use Rattle.xp_eval.proofs.evaluator.Evaluator.call_on_slot.Goals as goal

pub returns-in-Some : goal.returns-in-Some
returns-in-Some g c =
    let next : Value → Evaluation EvalFault Value = λ v. applied c.args.self.now.caller.tree.now.nodes c.args.function c.args.at.now (v ∷ []) in
    ran_alike (ap (λ m. bind m next) (ap slot_value (sym c.get.ensures ∙ ap option_copied c.in-Some.is) ∙ slot_given c.in-Some.held.now)) c.call_on_held.ensures

pub returns-in-None : goal.returns-in-None
returns-in-None g c =
    let next : Value → Evaluation EvalFault Value = λ v. applied c.args.self.now.caller.tree.now.nodes c.args.function c.args.at.now (v ∷ []) in
    ran_alike (ap (λ m. bind m next) (ap slot_value (sym c.get.ensures ∙ ap option_copied c.in-None.is)) ∙ bind-done (NodeSet []) next) c.call_on_no_nodes.ensures
