use Rattle.std.proofs.Common.{subst, sym}
use Rattle.xp_meaning.specs.Results.{shown}
use Rattle.rule_run.specs.KeptMatches.{AreKept}
use Rattle.rule_run.proofs.Keeps.{risen}
use Rattle.rule_run.proofs.Pairs.{pair_ran, rules_counted, rules_few, rules_lent}
use Rattle.rule_run.proofs.pairing.PlanRun.outcome_of_pair.Goals as goal

pub first_rule-outcome-requires-clause-few : goal.first_rule-outcome-requires-clause-few
first_rule-outcome-requires-clause-few g c =
    rules_few c.args.self.now.plan.now c.args.p c.let_count-count.result c.let_count-count.ensures _
    (rules_lent c.args.self.now.plan.now c.args.p _ _ _ c.as_slice.ensures c.requires.active c.index-as_slice-p.is c.as_slice-2.ensures) c.requires.counted

pub first_rule-outcome-requires-clause-counted : goal.first_rule-outcome-requires-clause-counted
first_rule-outcome-requires-clause-counted g c =
    rules_counted c.args.self.now.plan.now c.args.p c.let_count-count.result c.let_count-count.ensures _
    (rules_lent c.args.self.now.plan.now c.args.p _ _ _ c.as_slice.ensures c.requires.active c.index-as_slice-p.is c.as_slice-2.ensures) c.requires.counted

pub returns-clause-ran : goal.returns-clause-ran
returns-clause-ran g c =
    c.keep_outcome.ensures _ c.cut_lets.new.self _ _
    (λ f is. c.first_match_fires.ensures.no_fault c.args.self.now.plan.now c.args.self.now.caller.tree.now.nodes c.args.lets.now c.args.p c.args.n f is)
    (pair_ran c.args.self.now.plan.now c.args.p c.let_count-count.result c.let_count-count.ensures _
    (rules_lent c.args.self.now.plan.now c.args.p _ _ _ c.as_slice.ensures c.requires.active c.index-as_slice-p.is c.as_slice-2.ensures)
    c.args.self.now.caller.tree.now.nodes c.args.lets.now c.args.n (shown c.first_rule-outcome.result) c.clear.new.self c.first_rule-outcome.new.reads c.cut_lets.new.self
    c.clear.ensures c.cut_lets.ensures c.tick.ensures c.first_rule-outcome.ensures.ran)

pub returns-clause-counted : goal.returns-clause-counted
returns-clause-counted g c = risen (shown c.first_rule-outcome.result) c.tick.ensures c.first_rule-outcome.ensures.ran

pub first_rule-outcome-requires-clause-kept : goal.first_rule-outcome-requires-clause-kept
first_rule-outcome-requires-clause-kept g c =
    subst (λ rules. AreKept c.args.self.now.caller.tree.now c.args.lets.now rules c.args.kept.now)
    (sym (rules_lent c.args.self.now.plan.now c.args.p _ _ _ c.as_slice.ensures c.requires.active c.index-as_slice-p.is c.as_slice-2.ensures)) c.requires.kept

pub returns-clause-kept : goal.returns-clause-kept
returns-clause-kept g c =
    subst (λ rules. AreKept c.args.self.now.caller.tree.now c.args.lets.now rules c.first_rule-outcome.new.kept)
    (rules_lent c.args.self.now.plan.now c.args.p _ _ _ c.as_slice.ensures c.requires.active c.index-as_slice-p.is c.as_slice-2.ensures) c.first_rule-outcome.ensures.kept
