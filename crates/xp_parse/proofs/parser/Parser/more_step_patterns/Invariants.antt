use Rattle.std.proofs.Common.{◌≤◌, length}
use Rattle.sch_base.specs.declared.limits.TheConstants.{MAX_NESTING}
use Rattle.xp_grammar.specs.inner.PatternMachine.{Place}
use Rattle.xp_parse.specs.inner.Places.{rest_of}
use Rattle.xp_parse.specs.inner.PatternReading.{IsClosedAt, StepsReached}
use Rattle.xp_parse.proofs.parser.Parser.more_step_patterns.Given as goal

abbrev pub invariant-loop-join : goal.invariant-loop-join
invariant-loop-join l = (length (rest_of l.self) ≤ length (rest_of l.initial.self)) ×
    ((a : Place) → IsClosedAt a (rest_of l.initial.self) →
    StepsReached MAX_NESTING a l.initial.found.items (rest_of l.initial.self) (rest_of l.self) l.found.items)

abbrev pub decreases-loop-join : goal.decreases-loop-join
decreases-loop-join l = length (rest_of l.self)
