-- The ids so far are kept.
use Rattle.std.proofs.Common.{◌≡◌, ◌∷◌, [], take}
use Rattle.std.specs.List.{flat_map}
use Rattle.sch_references.specs.References.{is_among}
use Rattle.sch_references.specs.inner.KnownIds.{with_ids}
use Rattle.sch_references.proofs.ids.IdSet.add_phases.Given as goal

abbrev pub invariant-loop-phase : goal.invariant-loop-phase
invariant-loop-phase l = is_among l.self ≡ with_ids (is_among l.initial.self) (flat_map (λ phase. phase.id ∷ []) (take l.phase-index l.phases))
