use Rattle.location_laws.proofs.Found.{nothing_else}
use Rattle.location_laws.proofs.locations_find_nothing_else.Goals as goal

pub returns : goal.returns
returns c =
    nothing_else c.args.tree.now.nodes c.locations_find_their_nodes.ensures c.one_spelling.ensures c.expressions_are_typed_or_refused.ensures.one_tree
