use Rattle.std.proofs.Common.{◌∷◌, [], ◌∙◌, ap}
use Rattle.xp_outcome.specs.Evaluation.{given, bind}
use Rattle.xp_outcome.proofs.Outcomes.{bind-done, bind_after_fault}
use Rattle.xp_outcome.proofs.Runs.{ran_alike, ran_fault}
use Rattle.xp_meaning.specs.Functions.{applied}
use Rattle.xp_eval.proofs.evaluator.Evaluator.call_on_held.Goals as goal

pub returns-in-Ok : goal.returns-in-Ok
returns-in-Ok g c =
    ran_alike
    (ap (λ r. bind (given r) (λ v. applied c.args.self.now.caller.tree.now.nodes c.args.function c.args.at.now (v ∷ []))) c.in-Ok.is
    ∙ bind-done c.in-Ok.value (λ v. applied c.args.self.now.caller.tree.now.nodes c.args.function c.args.at.now (v ∷ [])))
    c.call_on.ensures

pub returns-in-Err : goal.returns-in-Err
returns-in-Err g c =
    ran_alike
    (ap (λ r. bind (given r) (λ v. applied c.args.self.now.caller.tree.now.nodes c.args.function c.args.at.now (v ∷ []))) c.in-Err.is
    ∙ bind_after_fault c.in-Err.fault (λ v. applied c.args.self.now.caller.tree.now.nodes c.args.function c.args.at.now (v ∷ [])))
    (ran_fault c.in-Err.fault _ _)
