-- None so far has the name.
use Rattle.std.proofs.Common.{◌≡◌, length}
use Rattle.std.specs.Vec.Iter.{into_iter_items, into_iter_len}
use Rattle.sch_phases.specs.Phases.{phase_of}
use Rattle.sch_phases.proofs.phases.phase_of.Given as goal

abbrev pub invariant-loop-phase : goal.invariant-loop-phase
invariant-loop-phase l = (phase_of (into_iter_items l.phase-iterator) l.name ≡ phase_of (into_iter_items l.initial.phase-iterator) l.name)
    × (into_iter_len l.phase-iterator ≡ length (into_iter_items l.phase-iterator))
