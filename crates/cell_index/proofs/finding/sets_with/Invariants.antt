-- The sets of the cells so far are found.
use Rattle.std.proofs.Common.{ℕ, [], take}
use Rattle.std.specs.List.{list_any}
use Rattle.cell_index.specs.inner.Gathering.{Finds}
use Rattle.cell_index.specs.inner.Sharing.{AreReaders, set_has}
use Rattle.cell_index.proofs.finding.sets_with.Given as goal

abbrev pub invariant-loop-cell : goal.invariant-loop-cell
invariant-loop-cell l = AreReaders l.sets l.readers → Finds (λ (set : ℕ). list_any (set_has l.sets set) (take l.cell-index l.cells)) [] l.found.items
