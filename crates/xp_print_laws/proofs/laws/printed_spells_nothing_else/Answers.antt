use Rattle.xp_print_laws.proofs.Whole.{nothing-else}
use Rattle.xp_print_laws.proofs.laws.printed_spells_nothing_else.Goals as goal

pub returns : goal.returns
returns c = nothing-else c.printed_spells_the_same_tree.ensures c.one_spelling.ensures
