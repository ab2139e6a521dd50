-- Whoever walks the rest has walked the whole.
use Rattle.std.proofs.Common.{◌≡◌, length}
use Rattle.std.specs.Vec.Iter.{into_iter_items, into_iter_len}
use Rattle.sch_plan.specs.Lets.{one_let}
use Rattle.sch_plan.proofs.Loops.{EachLeft}
use Rattle.sch_plan.proofs.scopes.Scopes.all_lets.Given as goal

abbrev pub invariant-loop-its : goal.invariant-loop-its
invariant-loop-its l = EachLeft one_let l.initial.self (into_iter_items l.initial.its-iterator) l.self l.list (into_iter_items l.its-iterator)
    × (into_iter_len l.its-iterator ≡ length (into_iter_items l.its-iterator))
