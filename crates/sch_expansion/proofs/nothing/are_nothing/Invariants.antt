-- Those so far stand for nothing.
use Rattle.std.proofs.Common.{◌≡◌, drop}
use Rattle.sch_expansion.specs.inner.Walks.{expanded}
use Rattle.sch_expansion.proofs.nothing.are_nothing.Given as goal

abbrev pub invariant-loop-item : goal.invariant-loop-item
invariant-loop-item l = expanded l.rules l.items ≡ expanded l.rules (drop l.item-index l.items)
