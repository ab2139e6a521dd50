use Rattle.xp_typed_tree.proofs.TypedViewLemmas.{of-Negate}
use Rattle.xp_typed_tree.proofs.expr.TypedExpr.negate.Goals as goal

pub returns : goal.returns
returns c = of-Negate c.args.count c.args.operand
