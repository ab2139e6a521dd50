use Rattle.xp_typed_tree.proofs.TypedViewLemmas.{of-Path}
use Rattle.xp_typed_tree.proofs.expr.TypedExpr.path.Goals as goal

pub returns : goal.returns
returns c = of-Path c.args.start c.args.steps
