use Rattle.xp_tree.proofs.ViewLemmas.{of-Number}
use Rattle.xp_tree.proofs.expr.Expr.number.Goals as goal

pub returns : goal.returns
returns c = of-Number c.args.offset c.args.digits
