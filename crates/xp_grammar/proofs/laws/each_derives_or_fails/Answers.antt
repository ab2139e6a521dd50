use Rattle.xp_grammar.proofs.Judged.{each_judged}
use Rattle.xp_grammar.proofs.laws.each_derives_or_fails.Goals as goal

pub returns : goal.returns
returns c = each_judged
