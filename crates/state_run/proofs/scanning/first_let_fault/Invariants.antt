-- The lets so far have no fault.
use Rattle.std.proofs.Common.{◌≡◌, drop}
use Rattle.sch_units.specs.Validity.{first_let_fault}
use Rattle.state_run.proofs.scanning.first_let_fault.Given as goal

abbrev pub invariant-loop-slot : goal.invariant-loop-slot
invariant-loop-slot l = first_let_fault l.slot (drop l.slot l.lets) ≡ first_let_fault 0 l.lets
