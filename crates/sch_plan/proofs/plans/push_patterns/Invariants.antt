-- Those so far were moved.
use Rattle.std.proofs.Common.{◌≡◌, ◌++◌, length, map}
use Rattle.std.specs.Vec.Iter.{into_iter_items, into_iter_len}
use Rattle.sch_plan.specs.Compiled.{pattern_lets, plan_pattern}
use Rattle.sch_plan.proofs.plans.push_patterns.Given as goal

abbrev pub invariant-loop-its : goal.invariant-loop-its
invariant-loop-its l = (l.plan.lets ++ pattern_lets l.place (into_iter_items l.its-iterator) ≡ l.initial.plan.lets ++ pattern_lets 0 (into_iter_items l.initial.its-iterator))
    × (l.plan.patterns ++ map plan_pattern (into_iter_items l.its-iterator) ≡ l.initial.plan.patterns ++ map plan_pattern (into_iter_items l.initial.its-iterator))
    × (l.plan ≡ record l.initial.plan { lets = l.plan.lets; patterns = l.plan.patterns })
    × (into_iter_len l.its-iterator ≡ length (into_iter_items l.its-iterator))
