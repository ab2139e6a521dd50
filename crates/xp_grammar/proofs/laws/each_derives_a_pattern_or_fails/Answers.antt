use Rattle.xp_grammar.proofs.PatternJudged.{each_pattern_judged}
use Rattle.xp_grammar.proofs.laws.each_derives_a_pattern_or_fails.Goals as goal

pub returns : goal.returns
returns c = each_pattern_judged
