use Rattle.std.proofs.lemmas.Str.{chars-encodes}
use Rattle.sch_base.proofs.laws.text_has_its_characters.Goals as goal

pub returns : goal.returns
returns c = chars-encodes
