-- Those so far are kept.
use Rattle.std.proofs.Common.{◌≡◌, ℕ, List, length}
use Rattle.std.specs.Option.{option_or}
use Rattle.std.specs.Vec.Iter.{into_iter_items, into_iter_len}
use Rattle.sch_plan.specs.Rules.{diagnostic_of}
use Rattle.sch_plan.specs.inner.Ids.{found_in}
use Rattle.sch_plan.proofs.ids.by_id.Given as goal

abbrev pub invariant-loop-diagnostic : goal.invariant-loop-diagnostic
invariant-loop-diagnostic l = ((id : List ℕ) → option_or (found_in l.found.entries id) (diagnostic_of (into_iter_items l.diagnostic-iterator) id) ≡ diagnostic_of (into_iter_items l.initial.diagnostic-iterator) id)
    × (into_iter_len l.diagnostic-iterator ≡ length (into_iter_items l.diagnostic-iterator))
