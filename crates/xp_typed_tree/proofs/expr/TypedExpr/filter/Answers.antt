use Rattle.xp_typed_tree.proofs.TypedViewLemmas.{of-Filter}
use Rattle.xp_typed_tree.proofs.expr.TypedExpr.filter.Goals as goal

pub returns : goal.returns
returns c = of-Filter c.args.base c.args.predicates
