use Rattle.xp_tree.proofs.ViewLemmas.{of-rolled-operand}
use Rattle.xp_tree.proofs.expr.Operand.new.Goals as goal

pub returns : goal.returns
returns c = λ rest. of-rolled-operand _ rest
