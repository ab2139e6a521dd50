use Rattle.std.proofs.Common.{◌≡◌, ◌+◌, List, Option, drop}
use Rattle.xp_typed_tree.specs.TypedTree.{TypedTree}
use Rattle.xp_outcome.specs.Running.{Onto}
use Rattle.xp_outcome.specs.Slots.{slots_below}
use Rattle.sch_compiled.specs.declared.parts.PlanAssert.{PlanAssert}
use Rattle.sch_units.specs.Firing.{fired_by}
use Rattle.rule_run.proofs.validator.Validator.set_lets.Given as goal

abbrev pub invariant-loop-i : goal.invariant-loop-i
invariant-loop-i g l = record {
  rest : (subject : Option TypedTree) (assertions : List PlanAssert) →
      Onto (fired_by l.fn.self.caller.tree.now.nodes l.initial.lets l.fn.self.node l.fn.self.count subject l.items assertions) l.initial.reads l.initial.steps
      (fired_by l.fn.self.caller.tree.now.nodes l.lets l.fn.self.node (l.fn.self.count + l.i) subject (drop l.i l.items) assertions) l.reads l.steps;
  below : slots_below l.fn.self.count l.lets ≡ slots_below l.fn.self.count l.initial.lets;
}
