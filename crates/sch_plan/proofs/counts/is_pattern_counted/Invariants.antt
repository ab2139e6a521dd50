-- Those so far fit.
use Rattle.std.proofs.Common.{◌≡◌, ◌<◌, ℕ, Some, slice_get}
use Rattle.sch_compiled.specs.declared.parts.PlanRule.{PlanRule}
use Rattle.sch_plan.specs.inner.Counts.{IsRuleCounted}
use Rattle.sch_plan.proofs.counts.is_pattern_counted.Given as goal

abbrev pub invariant-loop-rule : goal.invariant-loop-rule
invariant-loop-rule l = (r : ℕ) → r < l.rule-index → (rule : PlanRule) → slice_get l.rules r ≡ Some rule → IsRuleCounted l.lets rule
