-- The ids so far are kept.
use Rattle.std.proofs.Common.{◌≡◌, take}
use Rattle.std.specs.List.{flat_map}
use Rattle.sch_references.specs.References.{concrete_id, is_among}
use Rattle.sch_references.specs.inner.KnownIds.{with_ids}
use Rattle.sch_references.proofs.ids.IdSet.add_patterns.Given as goal

abbrev pub invariant-loop-pattern : goal.invariant-loop-pattern
invariant-loop-pattern l = is_among l.self ≡ with_ids (is_among l.initial.self) (flat_map concrete_id (take l.pattern-index l.patterns))
