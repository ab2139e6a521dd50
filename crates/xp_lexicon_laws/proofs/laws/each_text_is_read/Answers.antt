-- The longest lexeme is looked for, from the longest front on.
use Rattle.xp_lexicon_laws.proofs.EachRead.{each-read}
use Rattle.xp_lexicon_laws.proofs.laws.each_text_is_read.Goals as goal

pub returns : goal.returns
returns c = each-read
