use Rattle.xp_typed_tree.proofs.TypedViewLemmas.{of-Literal}
use Rattle.xp_typed_tree.proofs.expr.TypedExpr.literal.Goals as goal

pub returns : goal.returns
returns c = of-Literal c.args.value
