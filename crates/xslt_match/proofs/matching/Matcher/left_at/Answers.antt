use Rattle.std.proofs.Common.{sym, subst, zero-add}
use Rattle.xslt_match.specs.Kept.{IsOutcomeAt, told}
use Rattle.xslt_match.proofs.Repeating.{outcome_there, ran_counted}
use Rattle.xslt_match.proofs.matching.Matcher.left_at.Goals as goal

pub returns-in-Some-clause-ran : goal.returns-in-Some-clause-ran
returns-in-Some-clause-ran g c =
    let T = c.args.self.now.evaluator.caller.tree.now.nodes in
    let L = c.args.self.now.evaluator.lets.now in
    let ps = c.args.self.now.pattern.now in
    let found = c.in-Some.found.now in
    let there = subst (λ key. IsOutcomeAt T L ps key found) c.key_at.ensures (c.in-Some.ensures c.args.self.now.evaluator.caller.tree.now L ps c.requires.kept) in
    c.tell.ensures _ _ _
    (ran_counted (told found.selected.nodes c.args.k) found.visits (sym (zero-add found.visits)) c.tick_times.ensures
    (outcome_there T L ps c.args.at.now c.requires.placed c.args.parent found there c.args.self.now.node c.args.k))
