use Rattle.xp_tree.proofs.ViewLemmas.{of-Filter}
use Rattle.xp_tree.proofs.expr.Expr.filtered.Goals as goal

pub returns : goal.returns
returns c = of-Filter c.args.offset c.args.base c.args.predicates
