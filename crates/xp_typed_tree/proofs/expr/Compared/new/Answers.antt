use Rattle.xp_typed_tree.proofs.TypedViewLemmas.{of-rolled-compared}
use Rattle.xp_typed_tree.proofs.expr.Compared.new.Goals as goal

pub returns : goal.returns
returns c = λ rest. of-rolled-compared _ rest
