-- The items so far are summed up.
use Rattle.std.proofs.Common.{◌≡◌, take}
use Rattle.sch_sizes.specs.inner.Amounts.{cap, sum_all}
use Rattle.sch_sizes.proofs.sum.sum_over.Given as goal

abbrev pub invariant-loop-item : goal.invariant-loop-item
invariant-loop-item g l = l.sum ≡ cap (sum_all (g.W.Weighing.amount l.way) (take l.item-index l.items))
