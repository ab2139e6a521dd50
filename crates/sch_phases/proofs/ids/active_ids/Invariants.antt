-- The ids so far are kept.
use Rattle.std.proofs.Common.{◌≡◌, ℕ, ◌||◌, List, drop}
use Rattle.sch_phases.specs.Phases.{is_active}
use Rattle.sch_phases.specs.inner.Ids.{has_id}
use Rattle.sch_phases.proofs.ids.active_ids.Given as goal

abbrev pub invariant-loop-its : goal.invariant-loop-its
invariant-loop-its l = (id : List ℕ) → (has_id l.ids.keys id || is_active (drop l.its-index l.active) id) ≡ is_active l.active id
