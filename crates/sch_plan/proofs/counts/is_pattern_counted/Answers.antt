use Rattle.std.proofs.Common.{arith, rules}
use Rattle.sch_plan.proofs.CountLemmas.{one-more, pattern-counted}
use Rattle.sch_plan.proofs.counts.is_pattern_counted.Goals as goal

pub loop-rule-preserved : goal.loop-rule-preserved
loop-rule-preserved c =
    one-more _ _ _ c.rule-item.result c.loop-rule-test.true c.rule-item.is c.loop-rule.invariant (c.if-not-is_rule_counted.ensures (search rules))

pub returns : goal.returns
returns c =
    λ _. pattern-counted c.args.lets c.args.pattern.now _ c.loop-rule.rule-index c.as_slice-rules.ensures (omega arith) c.loop-rule-test.false c.loop-rule.invariant
