use Rattle.std.proofs.Common.{◌∙◌, ap, refl, sym}
use Rattle.xp_outcome.proofs.Runs.{ran_alike}
use Rattle.xp_meaning.proofs.Exits.{ran_done_at}
use Rattle.xp_typed_tree.specs.TypedView.{pattern_step_seen}
use Rattle.xslt_match.specs.Matching.{is_left, step_of}
use Rattle.xslt_match.proofs.matching.Matcher.is_left.Goals as goal

pub returns-in-Some-clause-ran : goal.returns-in-Some-clause-ran
returns-in-Some-clause-ran g c =
    ran_alike (ap (is_left c.args.self.now.evaluator.caller.tree.now.nodes (step_of c.args.self.now.evaluator.caller.tree.now.nodes c.args.self.now.evaluator.lets.now (pattern_step_seen c.args.at.now.step.now)) c.args.self.now.node c.args.k) (sym c.parent.ensures ∙ c.in-Some.is))
    c.left_at.ensures.ran

pub returns-in-None-clause-ran : goal.returns-in-None-clause-ran
returns-in-None-clause-ran g c =
    ran_alike (ap (is_left c.args.self.now.evaluator.caller.tree.now.nodes (step_of c.args.self.now.evaluator.caller.tree.now.nodes c.args.self.now.evaluator.lets.now (pattern_step_seen c.args.at.now.step.now)) c.args.self.now.node c.args.k) (sym c.parent.ensures ∙ c.in-None.is))
    (ran_done_at _ _ _ refl)
