use Rattle.xp_typed_tree.proofs.TypedViewLemmas.{of-Here}
use Rattle.xp_typed_tree.proofs.expr.TypedStart.at_context.Goals as goal

pub returns : goal.returns
returns c = of-Here
