-- The rest is lacking.
use Rattle.std.proofs.Common.{◌≡◌, ◌+◌, drop}
use Rattle.sch_plan.specs.Compiled.{let_count, lets_of_patterns}
use Rattle.sch_plan.proofs.counts.let_count.Given as goal

abbrev pub invariant-loop-pattern : goal.invariant-loop-pattern
invariant-loop-pattern l = l.count + lets_of_patterns (drop l.pattern-index l.choice.patterns) ≡ let_count l.lets l.choice
