use Rattle.xp_typed_tree.proofs.TypedViewLemmas.{of-Union}
use Rattle.xp_typed_tree.proofs.expr.TypedExpr.union.Goals as goal

pub returns : goal.returns
returns c = of-Union c.args.operands
