use Rattle.xp_typed_tree.proofs.TypedViewLemmas.{of-From}
use Rattle.xp_typed_tree.proofs.expr.TypedStart.from_nodes.Goals as goal

pub returns : goal.returns
returns c = of-From c.args.base
