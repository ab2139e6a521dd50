use Rattle.xp_tree.proofs.ViewLemmas.{of-Call}
use Rattle.xp_tree.proofs.expr.Expr.call.Goals as goal

pub returns : goal.returns
returns c = of-Call c.args.offset c.args.name c.args.args
