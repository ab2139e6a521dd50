-- Those so far were taken.
use Rattle.std.proofs.Common.{◌≡◌, ◌++◌, drop, map, not}
use Rattle.std.specs.Prelude.{filter}
use Rattle.sch_expansion.specs.inner.FlatBy.{flat_by}
use Rattle.sch_expansion.proofs.flat.Flattener.patterns.Given as goal

abbrev pub invariant-loop-pattern : goal.invariant-loop-pattern
invariant-loop-pattern l =
    l.flat ++ map (flat_by l.self.expansion l.self.origins) (filter (λ pattern. not pattern.is_abstract) (drop l.pattern-index l.patterns))
    ≡ map (flat_by l.self.expansion l.self.origins) (filter (λ pattern. not pattern.is_abstract) l.patterns)
