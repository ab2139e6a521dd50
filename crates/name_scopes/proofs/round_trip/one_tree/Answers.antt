-- Both tables have the laws of a tree's, so that their namespaces follow; then their lines are the same.
use Rattle.name_scopes.proofs.OneTree.{one-tree}
use Rattle.name_scopes.proofs.round_trip.one_tree.Goals as goal

pub returns : goal.returns
returns c = one-tree c.well_formed_is_enough.ensures c.one_table.ensures
