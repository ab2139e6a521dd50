-- Those so far were checked.
use Rattle.std.proofs.Common.{◌≡◌, ◌∷◌, [], take}
use Rattle.std.specs.List.{flat_map}
use Rattle.sch_references.specs.References.{active_place}
use Rattle.sch_references.specs.inner.KnownIds.{known_by}
use Rattle.sch_references.specs.inner.Onto.{onto}
use Rattle.sch_references.proofs.ids.Ids.check_phase.Given as goal

abbrev pub invariant-loop-active : goal.invariant-loop-active
invariant-loop-active l = l.first ≡ onto l.initial.first (flat_map (λ active. active_place (known_by l.self) active ∷ []) (take l.active-index l.active-items))
