-- The link leads to the one that was the newest.
use Rattle.std.proofs.Common.{arith}
use Rattle.std.proofs.lemmas.Grind.{common_steps}
use Rattle.cell_index.proofs.chains.Chains.put_first.Goals as goal

pub returns-clause-added : goal.returns-clause-added
returns-clause-added c = grind (arith, common_steps)
