use Rattle.xp_typed_tree.proofs.TypedViewLemmas.{of-Or}
use Rattle.xp_typed_tree.proofs.expr.TypedExpr.or.Goals as goal

pub returns : goal.returns
returns c = of-Or c.args.operands
