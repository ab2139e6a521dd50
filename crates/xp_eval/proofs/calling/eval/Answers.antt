use Rattle.std.proofs.Common.{ap, sym}
use Rattle.xp_outcome.proofs.Runs.{ran_alike}
use Rattle.xp_meaning.specs.Evaluation.{meaning}
use Rattle.xp_eval.proofs.calling.eval.Goals as goal

pub returns : goal.returns
returns g c = ran_alike (ap (λ e. meaning c.args.tree.now.nodes c.args.lets.now e c.args.at.now) (sym c.tree.ensures.tree)) c.evaluate.ensures
