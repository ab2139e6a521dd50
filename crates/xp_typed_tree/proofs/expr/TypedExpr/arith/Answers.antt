use Rattle.xp_typed_tree.proofs.TypedViewLemmas.{of-Arith}
use Rattle.xp_typed_tree.proofs.expr.TypedExpr.arith.Goals as goal

pub returns : goal.returns
returns c = of-Arith c.args.first c.args.rest
