use Rattle.xp_meaning.proofs.Exits.{exit_memory}
use Rattle.xslt_match.proofs.Repeating.{outcome_kept, ran_later, ran_unread, visits_known}
use Rattle.xslt_match.proofs.matching.Matcher.left_anew.Goals as goal

pub returns-in_err-selected-clause-ran : goal.returns-in_err-selected-clause-ran
returns-in_err-selected-clause-ran g c = exit_memory _ c.from_residual.ensures.1 (ran_unread _ (c.in_err-selected.ensures c.args.k))

pub returns-clause-ran : goal.returns-clause-ran
returns-clause-ran g c = c.tell_and_keep.ensures.told _ _ _ (c.in_ok-selected.ensures c.args.k)

pub returns-clause-kept : goal.returns-clause-kept
returns-clause-kept g c =
    let T = c.args.self.now.evaluator.caller.tree.now.nodes in
    let L = c.args.self.now.evaluator.lets.now in
    let ps = c.args.self.now.pattern.now in
    let ran = c.in_ok-selected.ensures in
    c.tell_and_keep.ensures.kept c.args.self.now.evaluator.caller.tree.now L ps c.requires.kept
    (rw c.key_at-key.ensures
    (visits_known _ c.visits_between-visits.result c.args.steps.now c.select.new.steps c.taken-before.result c.taken.result
    c.visits_between-visits.ensures c.taken-before.ensures c.taken.ensures (ran_later _ (ran c.args.k)).0
    (λ visits rose. outcome_kept T L ps c.args.at.now c.requires.placed c.args.parent c.patterns_need_no_current.ensures.steps c.args.self.now.node
    c.in_ok-selected.selected c.args.steps.now c.select.new.steps visits rose ran)))
