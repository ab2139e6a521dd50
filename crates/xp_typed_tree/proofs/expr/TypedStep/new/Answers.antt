use Rattle.xp_typed_tree.proofs.TypedViewLemmas.{of-rolled-step}
use Rattle.xp_typed_tree.proofs.expr.TypedStep.new.Goals as goal

pub returns : goal.returns
returns c = λ rest. of-rolled-step _ rest
