use Rattle.std.proofs.Common.{arith, rules}
use Rattle.sch_plan.proofs.CountLemmas.{one-more, patterns-counted}
use Rattle.sch_plan.proofs.counts.are_patterns_counted.Goals as goal

pub loop-pattern-preserved : goal.loop-pattern-preserved
loop-pattern-preserved c =
    one-more _ _ _ c.pattern-item.result c.loop-pattern-test.true c.pattern-item.is c.loop-pattern.invariant (c.if-not-is_pattern_counted.ensures (search rules))

pub returns : goal.returns
returns c =
    λ _. patterns-counted c.args.lets c.args.patterns.now c.loop-pattern.pattern-index (omega arith) c.loop-pattern-test.false c.loop-pattern.invariant
