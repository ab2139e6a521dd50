use Rattle.xp_lexicon.proofs.Firsts.{point_alone}
use Rattle.xp_lexicon.proofs.lexeme.point.Goals as goal

pub returns-in-None : goal.returns-in-None
returns-in-None c = point_alone c.args.text.now c.args.behind.now c.symbol.result c.requires c.in-None.ensures c.symbol.ensures
