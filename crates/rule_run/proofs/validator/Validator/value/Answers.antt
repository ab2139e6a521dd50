use Rattle.std.proofs.Common.{ap, sym}
use Rattle.xp_outcome.proofs.Runs.{ran_alike}
use Rattle.xp_meaning.specs.Evaluation.{meaning}
use Rattle.rule_run.proofs.validator.Validator.value.Goals as goal

pub returns : goal.returns
returns g c =
    ran_alike (ap (meaning c.args.self.now.caller.tree.now.nodes c.args.lets.now c.args.expr.now) (sym c.alone.ensures)) c.eval.ensures
