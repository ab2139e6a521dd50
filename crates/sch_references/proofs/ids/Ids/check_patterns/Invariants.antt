-- Those so far were checked.
use Rattle.std.proofs.Common.{◌≡◌, take}
use Rattle.std.specs.List.{flat_map}
use Rattle.sch_references.specs.References.{pattern_places}
use Rattle.sch_references.specs.inner.KnownIds.{known_by}
use Rattle.sch_references.specs.inner.Onto.{onto}
use Rattle.sch_references.proofs.ids.Ids.check_patterns.Given as goal

abbrev pub invariant-loop-pattern : goal.invariant-loop-pattern
invariant-loop-pattern l = l.first ≡ onto l.initial.first (flat_map (pattern_places (known_by l.self) l.self.rules) (take l.pattern-index l.patterns))
