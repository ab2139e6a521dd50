-- Those so far are chosen.
use Rattle.std.proofs.Common.{◌≡◌, ◌++◌, filter, length}
use Rattle.std.specs.Vec.Iter.{into_iter_items, into_iter_len}
use Rattle.sch_phases.specs.Phases.{is_named}
use Rattle.sch_phases.specs.inner.Ids.{has_id}
use Rattle.sch_phases.proofs.phases.kept_patterns.Given as goal

abbrev pub invariant-loop-pattern : goal.invariant-loop-pattern
invariant-loop-pattern l = (l.list ++ filter (λ p. is_named (has_id l.ids.keys) p.id) (into_iter_items l.pattern-iterator) ≡ filter (λ p. is_named (has_id l.ids.keys) p.id) (into_iter_items l.initial.pattern-iterator))
    × (into_iter_len l.pattern-iterator ≡ length (into_iter_items l.pattern-iterator))
