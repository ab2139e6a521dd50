-- The lets so far are held.
use Rattle.std.proofs.Common.{◌≡◌, take}
use Rattle.std.specs.FinSet.{empty, from_list}
use Rattle.cell_covers.proofs.dropping.with_lets.Given as goal

abbrev pub invariant-loop-slot : goal.invariant-loop-slot
invariant-loop-slot l = record {
  lets : l.held.lets ≡ from_list (take l.slot-index l.slots);
  cells : l.held.cells ≡ empty;
  names : l.held.names ≡ empty;
}
