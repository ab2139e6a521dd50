use Rattle.std.proofs.Common.{ap, refl}
use Rattle.xp_outcome.proofs.Runs.{ran_alike}
use Rattle.xp_meaning.proofs.Exits.{ran_done_at}
use Rattle.xp_typed_tree.specs.TypedView.{pattern_step_seen}
use Rattle.xslt_match.specs.inner.OneChain.{survives_there}
use Rattle.xslt_match.proofs.matching.Matcher.survives_there.Goals as goal

pub returns-in-None-clause-ran : goal.returns-in-None-clause-ran
returns-in-None-clause-ran g c =
    ran_alike (ap (survives_there c.args.self.now.evaluator.caller.tree.now.nodes c.args.self.now.evaluator.lets.now (pattern_step_seen c.args.at.now.step.now) c.args.self.now.node) c.in-None.is)
    (ran_done_at _ _ _ refl)
