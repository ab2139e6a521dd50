use Rattle.xp_grammar_laws.proofs.laws.one_pattern.Goals as goal
use Rattle.xp_grammar_laws.proofs.UniquePatterns.{one_list}

pub returns : goal.returns
returns c = λ limit higher tokens ps qs D E. (one_list limit higher D E tt tt).1
