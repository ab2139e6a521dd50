use Rattle.std.proofs.Common.{◌++◌, drop}
use Rattle.xp_outcome.specs.inner.Settling.{SameItems}
use Rattle.xp_outcome.proofs.read_list.ReadList.stand_at_next.Given as goal

abbrev pub invariant-loop-item : goal.invariant-loop-item
invariant-loop-item g l =
    SameItems g.T.PartialEq.eq (l.fn.self.items.items ++ drop l.item-index l.more) l.fn.self.items.items →
    SameItems g.T.PartialEq.eq (l.fn.self.items.items ++ l.more) l.fn.self.items.items
