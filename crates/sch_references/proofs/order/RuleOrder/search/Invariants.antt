-- The rules so far were followed.
use Rattle.std.proofs.Common.{◌-◌, ◌≤◌, length}
use Rattle.sch_references.specs.inner.Ways.{Reached}
use Rattle.sch_references.proofs.order.RuleOrder.search.Given as goal

abbrev pub invariant-loop-next : goal.invariant-loop-next
invariant-loop-next l = record { reached : Reached l.self l.fn.name l.id l.next l.found; most : l.next ≤ length l.found }

abbrev pub decreases-loop-next : goal.decreases-loop-next
decreases-loop-next l = length l.self - l.next
