use Rattle.xp_syntax.proofs.Places.{no_pattern}
use Rattle.xp_syntax.proofs.laws.faulty_texts_spell_no_pattern.Goals as goal

pub returns : goal.returns
returns c = no_pattern c.texts_read_once.ensures
