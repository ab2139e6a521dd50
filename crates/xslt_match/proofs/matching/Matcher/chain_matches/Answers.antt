use Rattle.std.proofs.Common.{◌∙◌, sym}
use Rattle.std.proofs.lemmas.List.{nil_from_length}
use Rattle.xp_outcome.proofs.Runs.{ran_alike}
use Rattle.xp_meaning.proofs.Exits.{ran_done_at}
use Rattle.xslt_match.proofs.OneChain.{path_empty}
use Rattle.xslt_match.proofs.matching.Matcher.chain_matches.Goals as goal

pub one_chain_matches-requires-clause-parted : goal.one_chain_matches-requires-clause-parted
one_chain_matches-requires-clause-parted g c = sym c.deref.ensures.value ∙ c.in-Some.ensures.cases.0

pub one_chain_matches-requires-clause-from_parents : goal.one_chain_matches-requires-clause-from_parents
one_chain_matches-requires-clause-from_parents g c = sym c.all_from_parents.ensures ∙ c.if-all_from_parents.true

pub returns-in-None-clause-ran : goal.returns-in-None-clause-ran
returns-in-None-clause-ran g c =
    ran_alike (path_empty c.args.self.now.evaluator.caller.tree.now.nodes c.args.self.now.evaluator.lets.now c.args.self.now.node c.args.at.now.path.now
    (sym c.deref.ensures.value ∙ nil_from_length c.deref.result.now c.in-None.ensures.cases))
    (ran_done_at _ _ _ c.is_start.ensures)
