use Rattle.xp_lexicon.proofs.Readings.{whole_end}
use Rattle.xp_lexicon.proofs.laws.whole_texts_end.Goals as goal

pub returns : goal.returns
returns c = whole_end
