-- The ids so far are kept.
use Rattle.std.proofs.Common.{◌≡◌, ◌∷◌, [], take}
use Rattle.std.specs.List.{flat_map}
use Rattle.sch_references.specs.References.{is_among}
use Rattle.sch_references.specs.inner.KnownIds.{with_ids}
use Rattle.sch_references.proofs.ids.IdSet.add_diagnostics.Given as goal

abbrev pub invariant-loop-diagnostic : goal.invariant-loop-diagnostic
invariant-loop-diagnostic l = is_among l.self ≡ with_ids (is_among l.initial.self) (flat_map (λ diagnostic. diagnostic.id ∷ []) (take l.diagnostic-index l.diagnostics))
