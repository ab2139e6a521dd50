use Rattle.xp_tree.proofs.ViewLemmas.{of-rolled-step}
use Rattle.xp_tree.proofs.expr.Step.new.Goals as goal

pub returns : goal.returns
returns c = λ rest. of-rolled-step _ rest
