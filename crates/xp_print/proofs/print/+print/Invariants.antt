use Rattle.std.proofs.Common.{◌≡◌, ◌++◌, true, string_bytes, drop}
use Rattle.xp_tree.specs.declared.expr.Chain.{out-Chain}
use Rattle.xp_tree.specs.View.{tree_of, trees_seen, operands_seen, steps_seen}
use Rattle.xp_print.specs.Printed.{printed_chain, printed_rest, printed_steps, printed_predicates, printed_args}
use Rattle.xp_print.proofs.Printing.{Left}
use Rattle.xp_print.proofs.print.+print.Given as goal

abbrev pub invariant-add_chain-loop-operand : goal.invariant-add_chain-loop-operand
invariant-add_chain-loop-operand l =
    (l.next ≡ l.operand-index)
    × Left (string_bytes l.fn.out ++ printed_chain l.around l.behind (tree_of (out-Chain l.chain).first.value) (operands_seen (out-Chain l.chain).rest.items)) (string_bytes l.out)
    (printed_rest l.around l.behind (operands_seen (drop l.operand-index (out-Chain l.chain).rest.items)))

abbrev pub invariant-add_steps-loop-step : goal.invariant-add_steps-loop-step
invariant-add_steps-loop-step l =
    Left (string_bytes l.fn.out ++ printed_steps true (steps_seen l.steps)) (string_bytes l.out) (printed_steps l.first (steps_seen (drop l.step-index l.steps)))

abbrev pub invariant-add_predicates-loop-predicate : goal.invariant-add_predicates-loop-predicate
invariant-add_predicates-loop-predicate l =
    Left (string_bytes l.fn.out ++ printed_predicates (trees_seen l.predicates)) (string_bytes l.out) (printed_predicates (trees_seen (drop l.predicate-index l.predicates)))

abbrev pub invariant-add_args-loop-arg : goal.invariant-add_args-loop-arg
invariant-add_args-loop-arg l =
    Left (string_bytes l.fn.out ++ printed_args true (trees_seen l.args)) (string_bytes l.out) (printed_args l.first (trees_seen (drop l.arg-index l.args)))
