use Rattle.xp_tree.proofs.ViewLemmas.{of-rolled-chain}
use Rattle.xp_tree.proofs.expr.Chain.new.Goals as goal

pub returns : goal.returns
returns c = λ level. of-rolled-chain _ level
