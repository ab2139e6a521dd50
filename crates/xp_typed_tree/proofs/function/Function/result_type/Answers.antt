use Rattle.std.proofs.Common.{rules}
use Rattle.xp_typed_tree.proofs.function.Function.result_type.Goals as goal

pub returns-in-Current : goal.returns-in-Current
returns-in-Current c = search rules
