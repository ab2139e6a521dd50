-- None so far.
use Rattle.std.proofs.Common.{◌≡◌, drop}
use Rattle.std.specs.List.{list_any}
use Rattle.sch_sizes.specs.inner.Sums.{extends_some}
use Rattle.sch_sizes.proofs.table.some_extends.Given as goal

abbrev pub invariant-loop-rule : goal.invariant-loop-rule
invariant-loop-rule l = list_any extends_some (drop l.rule-index l.rules) ≡ list_any extends_some l.rules
