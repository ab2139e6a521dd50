-- Each name takes the namespace of the nearest declaration among the lines.
use Rattle.name_scopes.proofs.OneTree.{is-tree}
use Rattle.name_scopes.proofs.RoundTripLemmas.{follow}
use Rattle.name_scopes.proofs.round_trip.namespaces_follow.Goals as goal

pub returns : goal.returns
returns c T U one other = follow T U (is-tree c.well_formed_is_enough.ensures T one) (is-tree c.well_formed_is_enough.ensures U other)
