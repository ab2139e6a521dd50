use Rattle.xp_lexicon.proofs.Readings.{read_once_whole}
use Rattle.xp_lexicon.proofs.laws.texts_read_once.Goals as goal

pub returns : goal.returns
returns c = read_once_whole
