use Rattle.xp_tree.proofs.ViewLemmas.{of-Neg}
use Rattle.xp_tree.proofs.expr.Expr.negated.Goals as goal

pub returns : goal.returns
returns c = of-Neg c.args.offset c.args.count c.args.operand
