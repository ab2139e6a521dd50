use Rattle.xp_syntax.proofs.Judged.{none_unjudged_as_a_pattern}
use Rattle.xp_syntax.proofs.laws.no_text_is_unjudged_as_a_pattern.Goals as goal

pub returns : goal.returns
returns c = none_unjudged_as_a_pattern c.no_text_is_unread.ensures c.whole_texts_end.ensures c.each_derives_a_pattern_or_fails.ensures
