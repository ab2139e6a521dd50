use Rattle.xp_print_laws.proofs.Whole.{printed-tokens}
use Rattle.xp_print_laws.proofs.laws.printed_text_has_the_printed_tokens.Goals as goal

pub returns : goal.returns
returns c = printed-tokens c.whole_texts_end.ensures
