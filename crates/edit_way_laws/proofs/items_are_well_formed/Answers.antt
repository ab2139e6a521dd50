-- Line by line.
use Rattle.edit_way_laws.proofs.ItemLemmas.{items-formed}
use Rattle.edit_way_laws.proofs.items_are_well_formed.Goals as goal

pub returns : goal.returns
returns c = items-formed c.events_nest.ensures
