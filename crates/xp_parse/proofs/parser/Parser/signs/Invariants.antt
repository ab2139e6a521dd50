use Rattle.std.proofs.Common.{◌≤◌, ◌+◌, length}
use Rattle.sch_base.specs.declared.limits.TheConstants.{MAX_NESTING}
use Rattle.xp_grammar.specs.Grammar.{IsSigns}
use Rattle.xp_parse.specs.inner.Places.{rest_of}
use Rattle.xp_parse.proofs.parser.Parser.signs.Given as goal

abbrev pub invariant-loop-depth : goal.invariant-loop-depth
invariant-loop-depth l = IsSigns l.count (rest_of l.initial.self) (rest_of l.self) × (l.depth + l.count ≤ MAX_NESTING)

abbrev pub decreases-loop-depth : goal.decreases-loop-depth
decreases-loop-depth l = length (rest_of l.self)
