use Rattle.xp_lexicon.proofs.Read.{none_unread}
use Rattle.xp_lexicon.proofs.laws.no_text_is_unread.Goals as goal

pub returns : goal.returns
returns c = none_unread
