-- Locations tell nodes apart.
use Rattle.doc_locations.proofs.ApartLemmas.{locations_are_told_apart}
use Rattle.doc_locations.proofs.laws.locations_are_told_apart.Goals as goal

pub returns : goal.returns
returns c = locations_are_told_apart
