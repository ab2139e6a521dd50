-- The cells so far are those of the names so far.
use Rattle.std.proofs.Common.{◌≡◌, take}
use Rattle.xp_outcome.specs.declared.names_along.NamesAlong.{NamesAlong}
use Rattle.cell_index.specs.Cells.{is_among}
use Rattle.read_index.specs.Names.{is_far, is_named}
use Rattle.read_index.specs.inner.Filing.{filed}
use Rattle.read_index.proofs.filing.cells_for.Given as goal

abbrev pub invariant-loop-item : goal.invariant-loop-item
invariant-loop-item l =
    (a : NamesAlong) → is_far a.axis ≡ l.far → is_among l.cells.items (filed a.axis a.node) ≡ is_named (take l.item-index l.names) a
