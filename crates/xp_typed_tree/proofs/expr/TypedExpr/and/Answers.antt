use Rattle.xp_typed_tree.proofs.TypedViewLemmas.{of-And}
use Rattle.xp_typed_tree.proofs.expr.TypedExpr.and.Goals as goal

pub returns : goal.returns
returns c = of-And c.args.operands
