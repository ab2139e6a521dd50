use Rattle.xp_syntax.proofs.OneSpelling.{one-pattern}
use Rattle.xp_syntax.proofs.laws.one_pattern_spelling.Goals as goal

pub returns : goal.returns
returns c = one-pattern c.texts_read_once.ensures c.one_pattern.ensures
