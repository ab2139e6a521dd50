use Rattle.xp_syntax.proofs.Judged.{none_unjudged}
use Rattle.xp_syntax.proofs.laws.no_text_is_unjudged.Goals as goal

pub returns : goal.returns
returns c = none_unjudged c.no_text_is_unread.ensures c.whole_texts_end.ensures c.each_derives_or_fails.ensures
