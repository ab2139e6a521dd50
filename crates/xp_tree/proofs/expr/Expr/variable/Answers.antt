use Rattle.xp_tree.proofs.ViewLemmas.{of-Variable}
use Rattle.xp_tree.proofs.expr.Expr.variable.Goals as goal

pub returns : goal.returns
returns c = of-Variable c.args.offset c.args.name
