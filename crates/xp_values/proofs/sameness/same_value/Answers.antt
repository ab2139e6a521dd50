use Rattle.xp_values.proofs.SameLemmas.{node_sets_same}
use Rattle.xp_values.proofs.sameness.same_value.Goals as goal

pub returns-in-NodeSet-NodeSet : goal.returns-in-NodeSet-NodeSet
returns-in-NodeSet-NodeSet c =
    node_sets_same c.in-NodeSet-NodeSet.a c.in-NodeSet-NodeSet.b c.same_nodes.result c.args.a.now c.args.b.now c.same_nodes.ensures c.in-NodeSet-NodeSet.is-0 c.in-NodeSet-NodeSet.is-1
