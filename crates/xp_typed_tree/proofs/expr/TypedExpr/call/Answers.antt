use Rattle.xp_typed_tree.proofs.TypedViewLemmas.{of-Call}
use Rattle.xp_typed_tree.proofs.expr.TypedExpr.call.Goals as goal

pub returns : goal.returns
returns c = of-Call c.args.function c.args.args
