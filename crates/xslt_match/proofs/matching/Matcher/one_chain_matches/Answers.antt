use Rattle.std.proofs.Common.{◌∙◌, sym}
use Rattle.xp_outcome.proofs.Runs.{ran_alike, ran_done}
use Rattle.xslt_match.proofs.OneChain.{path_refused, path_tested}
use Rattle.xslt_match.proofs.matching.Matcher.one_chain_matches.Goals as goal

pub returns-then-has_chain-clause-ran : goal.returns-then-has_chain-clause-ran
returns-then-has_chain-clause-ran g c =
    let laws = c.laws.ensures in
    ran_alike (path_tested c.args.self.now.evaluator.caller.tree.now.nodes laws.well_formed laws.ordered laws.ways_up c.args.self.now.node c.requires.lives c.args.self.now.evaluator.lets.now
    c.args.at.now.path.now c.args.first.now c.args.later.now c.requires.parted c.requires.placed.typed c.requires.from_parents (sym c.has_chain.ensures ∙ c.if-has_chain.true))
    c.tests.ensures.ran

pub returns-clause-ran : goal.returns-clause-ran
returns-clause-ran g c =
    let laws = c.laws.ensures in
    ran_alike (path_refused c.args.self.now.evaluator.caller.tree.now.nodes laws.well_formed laws.ordered laws.ways_up c.args.self.now.node c.requires.lives c.args.self.now.evaluator.lets.now
    c.args.at.now.path.now c.args.first.now c.args.later.now c.requires.parted c.requires.placed.typed c.requires.from_parents (sym c.has_chain.ensures ∙ c.if-has_chain.false))
    (ran_done _ _ _)
