-- None so far.
use Rattle.std.proofs.Common.{◌≡◌, drop}
use Rattle.std.specs.List.{list_any}
use Rattle.sch_sizes.specs.inner.Sums.{is_extends}
use Rattle.sch_sizes.proofs.table.has_extends.Given as goal

abbrev pub invariant-loop-item : goal.invariant-loop-item
invariant-loop-item l = list_any is_extends (drop l.item-index l.items) ≡ list_any is_extends l.items
