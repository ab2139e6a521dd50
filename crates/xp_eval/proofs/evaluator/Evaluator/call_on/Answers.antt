use Rattle.std.proofs.Common.{ap, sym}
use Rattle.xp_outcome.proofs.Runs.{ran_alike}
use Rattle.xp_meaning.specs.Functions.{applied}
use Rattle.xp_eval.proofs.evaluator.Evaluator.call_on.Goals as goal

pub returns : goal.returns
returns g c = ran_alike (ap (λ vs. applied c.args.self.now.caller.tree.now.nodes c.args.function c.args.at.now vs) (sym c.from_ref.ensures.value)) c.apply.ensures
