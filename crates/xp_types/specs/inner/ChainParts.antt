-- The parts of a chain as it stands in memory.
use Rattle.std.specs.Prelude.{ℕ}
use Rattle.xp_tree.specs.declared.expr.Chain.{Chain, out-Chain}
use Rattle.xp_tree.specs.declared.expr.Operand.{Operand, out-Operand}
use Rattle.xp_tree.specs.declared.terms.Operator.{Operator}
use Rattle.xp_tree.specs.Tree.{Tree, Operands}
use Rattle.xp_tree.specs.View.{tree_of, operands_seen}

abbrev pub first_in : Chain → Tree
first_in c = tree_of (out-Chain c).first.value

abbrev pub rest_in : Chain → Operands
rest_in c = operands_seen (out-Chain c).rest.items

abbrev pub operator_in : Operand → Operator
operator_in o = (out-Operand o).operator

abbrev pub place_in : Operand → ℕ
place_in o = (out-Operand o).offset

abbrev pub expr_in : Operand → Tree
expr_in o = tree_of (out-Operand o).expr
