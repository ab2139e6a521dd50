use Rattle.xp_lexicon.proofs.LongNames.{no_names}
use Rattle.xp_lexicon.proofs.name.name.Goals as goal

pub returns-in-None : goal.returns-in-None
returns-in-None c = no_names c.args.text.now c.in-None.ensures
