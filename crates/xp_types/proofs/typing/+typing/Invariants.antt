use Rattle.xp_types.proofs.Looping.{ListOnto, ChainOnto, ComparedOnto, CombinedOnto, StepsOnto}
use Rattle.xp_types.proofs.typing.+typing.Given as goal

abbrev pub invariant-type_list-loop-expr : goal.invariant-type_list-loop-expr
invariant-type_list-loop-expr l = ListOnto l.env l.nodes l.exprs l.expr-index l.typed.items

abbrev pub invariant-type_chain-loop-operand : goal.invariant-type_chain-loop-operand
invariant-type_chain-loop-operand l = ChainOnto l.env l.level l.chain l.operand-index l.typed.items

abbrev pub invariant-type_comparison-loop-operand : goal.invariant-type_comparison-loop-operand
invariant-type_comparison-loop-operand l = ComparedOnto l.env l.level l.chain l.operand-index l.first.value l.compared.items

abbrev pub invariant-type_arithmetic-loop-operand : goal.invariant-type_arithmetic-loop-operand
invariant-type_arithmetic-loop-operand l = CombinedOnto l.env l.level l.chain l.operand-index l.first.value l.combined.items

abbrev pub invariant-type_steps-loop-step : goal.invariant-type_steps-loop-step
invariant-type_steps-loop-step l = StepsOnto l.env l.steps l.step-index l.typed.items
