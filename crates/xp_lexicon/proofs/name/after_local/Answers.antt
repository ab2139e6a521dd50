use Rattle.std.proofs.Common.{lit<, None}
use Rattle.std.proofs.lemmas.Str.Pattern.{strip_prefix_char}
use Rattle.xp_lexicon.proofs.name.after_local.Goals as goal

pub returns-in-None : goal.returns-in-None
returns-in-None c = λ behind split. absurd (strip_prefix_char 58 c.args.text.now None c.in-None.ensures.cases (lit< tt) behind split)
