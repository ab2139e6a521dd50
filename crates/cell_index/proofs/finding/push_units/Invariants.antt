-- Of the hints so far those that are wanted are gathered.
use Rattle.cell_index.specs.inner.Gathering.{Gathers}
use Rattle.cell_index.specs.inner.Sharing.{is_member}
use Rattle.cell_index.proofs.finding.push_units.Given as goal

abbrev pub invariant-loop-unit : goal.invariant-loop-unit
invariant-loop-unit l = Gathers (is_member l.of_unit l.set) l.unit-items l.unit-index l.fn.found.items l.found.items
