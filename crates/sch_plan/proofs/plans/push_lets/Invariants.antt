-- Those so far were moved.
use Rattle.std.proofs.Common.{◌≡◌, ◌++◌, length, map}
use Rattle.std.specs.Vec.Iter.{into_iter_items, into_iter_len}
use Rattle.sch_plan.specs.Compiled.{in_force}
use Rattle.sch_plan.proofs.plans.push_lets.Given as goal

abbrev pub invariant-loop-its : goal.invariant-loop-its
invariant-loop-its l = (l.list ++ map (in_force l.pattern) (into_iter_items l.its-iterator) ≡ l.initial.list ++ map (in_force l.pattern) (into_iter_items l.initial.its-iterator))
    × (into_iter_len l.its-iterator ≡ length (into_iter_items l.its-iterator))
