use Rattle.xp_typed_tree.proofs.TypedViewLemmas.{of-Variable}
use Rattle.xp_typed_tree.proofs.expr.TypedExpr.variable.Goals as goal

pub returns : goal.returns
returns c = of-Variable c.args.place c.args.ty
