-- Places among siblings are counted, and these go with their parent.
use Rattle.state_iso_laws.proofs.LocationLemmas.{locations-stay}
use Rattle.state_iso_laws.proofs.locations_stay.Goals as goal

pub returns : goal.returns
returns c = locations-stay c.renumbered_trees_hang.ensures
