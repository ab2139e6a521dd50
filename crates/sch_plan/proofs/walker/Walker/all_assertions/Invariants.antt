-- Whoever walks the rest has walked the whole.
use Rattle.std.proofs.Common.{◌≡◌, length}
use Rattle.std.specs.Vec.Iter.{into_iter_items, into_iter_len}
use Rattle.sch_plan.specs.Rules.{one_assertion}
use Rattle.sch_plan.specs.inner.Ids.{kept_in}
use Rattle.sch_plan.proofs.Loops.{EveryLeft}
use Rattle.sch_plan.proofs.walker.Walker.all_assertions.Given as goal

abbrev pub invariant-loop-its : goal.invariant-loop-its
invariant-loop-its l = EveryLeft (one_assertion (kept_in l.self.notes) l.self.seen) (into_iter_items l.initial.its-iterator) l.list (into_iter_items l.its-iterator)
    × (into_iter_len l.its-iterator ≡ length (into_iter_items l.its-iterator))
