use Rattle.xp_syntax.proofs.Places.{nothing}
use Rattle.xp_syntax.proofs.laws.faulty_texts_spell_nothing.Goals as goal

pub returns : goal.returns
returns c = nothing c.texts_read_once.ensures
