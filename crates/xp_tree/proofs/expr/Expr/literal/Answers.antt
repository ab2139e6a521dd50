use Rattle.xp_tree.proofs.ViewLemmas.{of-Literal}
use Rattle.xp_tree.proofs.expr.Expr.literal.Goals as goal

pub returns : goal.returns
returns c = of-Literal c.args.offset c.args.value
