use Rattle.std.proofs.lemmas.Str.{encodes-chars}
use Rattle.sch_base.proofs.laws.characters_spell_the_text.Goals as goal

pub returns : goal.returns
returns c = encodes-chars
