-- The steps of a location lead down to its node.
use Rattle.location_paths.proofs.Ways.{locations-are-paths}
use Rattle.location_paths.proofs.locations_are_paths.Goals as goal

pub returns : goal.returns
returns c = locations-are-paths
