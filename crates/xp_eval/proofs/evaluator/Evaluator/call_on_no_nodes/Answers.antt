use Rattle.std.proofs.Common.{◌∷◌, [], ap, sym}
use Rattle.xp_outcome.proofs.Runs.{ran_alike}
use Rattle.xp_values.specs.declared.values.Value.TheVariants.{NodeSet}
use Rattle.xp_meaning.specs.Functions.{applied}
use Rattle.xp_eval.proofs.evaluator.Evaluator.call_on_no_nodes.Goals as goal

pub returns : goal.returns
returns g c =
    ran_alike (ap (λ ns. applied c.args.self.now.caller.tree.now.nodes c.args.function c.args.at.now (NodeSet ns ∷ [])) (sym c.new.ensures)) c.call_on.ensures
