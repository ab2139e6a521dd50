-- The items of the tree give its text and its events.
use Rattle.name_scopes.proofs.OneTree.{is-tree}
use Rattle.name_scopes.proofs.RoundTripLemmas.{comes-back}
use Rattle.name_scopes.proofs.round_trip.text_comes_back.Goals as goal

pub returns : goal.returns
returns c T form = comes-back T (is-tree c.well_formed_is_enough.ensures T form) c.qnames_split.ensures c.written_is_read_back.ensures
