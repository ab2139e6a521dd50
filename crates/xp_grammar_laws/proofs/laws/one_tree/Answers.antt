use Rattle.xp_grammar_laws.proofs.laws.one_tree.Goals as goal
use Rattle.xp_grammar_laws.proofs.Unique.{one_chain}

pub returns : goal.returns
returns c = λ limit higher tokens e f D E. (one_chain limit higher D E tt tt).1
