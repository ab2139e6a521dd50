use Rattle.std.proofs.Common.{◌∙◌, sym}
use Rattle.xp_outcome.proofs.Runs.{ran_alike, ran_done}
use Rattle.xslt_match.proofs.Chaining.{chains_elsewhere}
use Rattle.xslt_match.proofs.matching.Matcher.path_matches.Goals as goal

pub returns-then-ends_elsewhere-clause-ran : goal.returns-then-ends_elsewhere-clause-ran
returns-then-ends_elsewhere-clause-ran g c =
    let T = c.args.self.now.evaluator.caller.tree.now.nodes in
    ran_alike (chains_elsewhere T c.args.self.now.node c.args.self.now.evaluator.lets.now _ _ _ (sym c.ends_elsewhere.ensures.ends ∙ c.if-ends_elsewhere.true)) (ran_done _ _ _)
