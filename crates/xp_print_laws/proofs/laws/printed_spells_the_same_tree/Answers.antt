use Rattle.xp_print_laws.proofs.Whole.{printed-spells}
use Rattle.xp_print_laws.proofs.laws.printed_spells_the_same_tree.Goals as goal

pub returns : goal.returns
returns c = printed-spells c.whole_texts_end.ensures
