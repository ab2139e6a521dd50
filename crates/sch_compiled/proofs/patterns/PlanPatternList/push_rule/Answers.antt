-- The last pattern has the new rule at its end.
use Rattle.std.proofs.Common.{◌≡◌, ◌-◌, suc, length, ap, arith, sym}
use Rattle.sch_compiled.proofs.PatternLemmas.{set-last-with_last_rule}
use Rattle.sch_compiled.proofs.patterns.PlanPatternList.push_rule.Goals as goal

pub returns-clause-pushed : goal.returns-clause-pushed
returns-clause-pushed c =
    let long : length c.self.inside.patterns.items ≡ suc (c.len-last.result - 1) = omega (arith, ap length c.self.view_is) in
    let h = set-last-with_last_rule c.self.inside.patterns.items (c.len-last.result - 1) c.index_mut-pattern.result.now c.args.rule long (sym c.index_mut-pattern.ensures.value) in
    cc (h, c.in_ok-push.ensures.pushed)
