use Rattle.std.proofs.Common.{rules}
use Rattle.xp_grammar.proofs.token.Word.as_str.Goals as goal

pub returns : goal.returns
returns c = search rules
