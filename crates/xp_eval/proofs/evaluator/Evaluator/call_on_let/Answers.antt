use Rattle.std.proofs.Common.{◌∷◌, [], List, refl, sym}
use Rattle.xp_outcome.specs.Evaluation.{Evaluation, variable}
use Rattle.xp_outcome.proofs.Runs.{ran_alike, ran_late, ran_moved, ran_reading}
use Rattle.xp_values.specs.declared.values.Value.{Value}
use Rattle.xp_values.specs.declared.values.EvalFault.{EvalFault}
use Rattle.xp_meaning.proofs.Exits.{exit_memory, ran_ticked}
use Rattle.xp_meaning.specs.Functions.{applied}
use Rattle.xp_eval.proofs.LoneLets.{lone_bound}
use Rattle.xp_eval.proofs.evaluator.Evaluator.call_on_let.Goals as goal

pub returns-in_err-add_let : goal.returns-in_err-add_let
returns-in_err-add_let g c =
    let next : List Value → Evaluation EvalFault Value = λ vs. applied c.args.self.now.caller.tree.now.nodes c.args.function c.args.at.now vs in
    exit_memory _ c.from_residual.ensures.1
    (ran_alike (lone_bound c.args.self.now.lets.now c.args.slot next) (ran_ticked c.tick.ensures (ran_moved refl c.in_err-add_let.ensures.unchanged refl refl (ran_late _ _ _))))

pub returns : goal.returns
returns g c =
    let next : List Value → Evaluation EvalFault Value = λ vs. applied c.args.self.now.caller.tree.now.nodes c.args.function c.args.at.now vs in
    ran_alike (lone_bound c.args.self.now.lets.now c.args.slot next)
    (ran_ticked c.tick.ensures (ran_reading (variable c.args.slot) (ran_moved (sym c.in_ok-add_let.ensures.noted) refl refl refl c.call_on_slot.ensures)))
