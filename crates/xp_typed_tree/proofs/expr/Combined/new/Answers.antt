use Rattle.xp_typed_tree.proofs.TypedViewLemmas.{of-rolled-combined}
use Rattle.xp_typed_tree.proofs.expr.Combined.new.Goals as goal

pub returns : goal.returns
returns c = λ rest. of-rolled-combined _ rest
