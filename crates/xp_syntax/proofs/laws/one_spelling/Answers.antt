use Rattle.xp_syntax.proofs.OneSpelling.{one-spelling}
use Rattle.xp_syntax.proofs.laws.one_spelling.Goals as goal

pub returns : goal.returns
returns c = one-spelling c.texts_read_once.ensures c.one_tree.ensures
