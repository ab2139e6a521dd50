use Rattle.std.proofs.Common.{length}
use Rattle.sch_base.specs.declared.limits.TheConstants.{MAX_NESTING}
use Rattle.xp_parse.specs.inner.Places.{rest_of}
use Rattle.xp_parse.specs.inner.Parsing.{PredicatesSoFar}
use Rattle.xp_parse.proofs.parser.Parser.pattern_predicates.Given as goal

abbrev pub invariant-loop-self : goal.invariant-loop-self
invariant-loop-self l = PredicatesSoFar MAX_NESTING 0 (rest_of l.initial.self) (rest_of l.self) l.found.items

abbrev pub decreases-loop-self : goal.decreases-loop-self
decreases-loop-self l = length (rest_of l.self)
