-- Those so far fit.
use Rattle.std.proofs.Common.{◌≡◌, ◌<◌, ℕ, Some, slice_get}
use Rattle.sch_compiled.specs.declared.parts.PlanPattern.{PlanPattern}
use Rattle.sch_plan.specs.inner.Counts.{IsPatternCounted}
use Rattle.sch_plan.proofs.counts.are_patterns_counted.Given as goal

abbrev pub invariant-loop-pattern : goal.invariant-loop-pattern
invariant-loop-pattern l = (p : ℕ) → p < l.pattern-index → (pattern : PlanPattern) → slice_get l.patterns p ≡ Some pattern → IsPatternCounted l.lets pattern
