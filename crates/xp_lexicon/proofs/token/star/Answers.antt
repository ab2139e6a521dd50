use Rattle.std.proofs.Common.{rules}
use Rattle.xp_lexicon.proofs.token.star.Goals as goal

pub returns-then-behind_operand : goal.returns-then-behind_operand
returns-then-behind_operand c = search rules
