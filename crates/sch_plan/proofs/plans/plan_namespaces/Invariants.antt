-- Those so far were moved.
use Rattle.std.proofs.Common.{◌≡◌, ◌++◌, length, map}
use Rattle.std.specs.Vec.Iter.{into_iter_items, into_iter_len}
use Rattle.sch_plan.specs.Compiled.{plan_ns}
use Rattle.sch_plan.proofs.plans.plan_namespaces.Given as goal

abbrev pub invariant-loop-ns : goal.invariant-loop-ns
invariant-loop-ns l = (l.list ++ map plan_ns (into_iter_items l.ns-iterator) ≡ map plan_ns (into_iter_items l.initial.ns-iterator))
    × (into_iter_len l.ns-iterator ≡ length (into_iter_items l.ns-iterator))
