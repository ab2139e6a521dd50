-- Those so far were moved.
use Rattle.std.proofs.Common.{◌≡◌, List, [], ◌∷◌, ◌++◌, length}
use Rattle.std.specs.Vec.Iter.{into_iter_items, into_iter_len}
use Rattle.sch_compiled.specs.declared.parts.PlanRule.{PlanRule}
use Rattle.sch_plan.proofs.plans.push_pattern.Given as goal

abbrev pub invariant-loop-rule : goal.invariant-loop-rule
invariant-loop-rule l = ((done : List PlanRule) × (done ++ into_iter_items l.rule-iterator ≡ into_iter_items l.initial.rule-iterator) × (l.patterns ≡ l.fn.patterns ++ record { id = l.fn.id; rules = done } ∷ []))
    × (into_iter_len l.rule-iterator ≡ length (into_iter_items l.rule-iterator))
