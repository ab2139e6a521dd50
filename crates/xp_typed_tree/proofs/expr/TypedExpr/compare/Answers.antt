use Rattle.xp_typed_tree.proofs.TypedViewLemmas.{of-Compare}
use Rattle.xp_typed_tree.proofs.expr.TypedExpr.compare.Goals as goal

pub returns : goal.returns
returns c = of-Compare c.args.first c.args.rest
