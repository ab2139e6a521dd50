use Rattle.std.proofs.Common.{◌≤◌, length}
use Rattle.sch_base.specs.declared.limits.TheConstants.{MAX_NESTING}
use Rattle.xp_grammar.specs.inner.PatternMachine.{Place}
use Rattle.xp_parse.specs.inner.Places.{rest_of}
use Rattle.xp_parse.specs.inner.PatternReading.{IsEndedAt, PathsReached}
use Rattle.xp_parse.proofs.parser.Parser.more_path_patterns.Given as goal

abbrev pub invariant-loop-self : goal.invariant-loop-self
invariant-loop-self l = (length (rest_of l.self) ≤ length (rest_of l.initial.self)) ×
    ((a : Place) → IsEndedAt a (rest_of l.initial.self) →
    PathsReached MAX_NESTING a l.initial.found.items (rest_of l.initial.self) (rest_of l.self) l.found.items)

abbrev pub decreases-loop-self : goal.decreases-loop-self
decreases-loop-self l = length (rest_of l.self)
