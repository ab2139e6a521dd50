use Rattle.xp_typed_tree.proofs.TypedViewLemmas.{of-Root}
use Rattle.xp_typed_tree.proofs.expr.TypedStart.at_root.Goals as goal

pub returns : goal.returns
returns c = of-Root
