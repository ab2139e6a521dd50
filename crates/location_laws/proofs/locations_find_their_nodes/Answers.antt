use Rattle.location_laws.proofs.Found.{locations_find}
use Rattle.location_laws.proofs.locations_find_their_nodes.Goals as goal

pub returns : goal.returns
returns c =
    locations_find c.whole_texts_end.ensures c.texts_have_their_tokens.ensures c.tokens_derive_typed_paths.ensures c.args.tree.now.nodes
    c.each_node_has_a_way_down.ensures
