use Rattle.std.proofs.Common.{[], ◌∷◌}
use Rattle.xp_values.specs.declared.values.Value.TheVariants.{NodeSet}
use Rattle.xp_eval.proofs.OwnNode.{own_then}
use Rattle.xp_eval.proofs.own_node.own_comparison.Goals as goal

pub returns-then-is_own_node : goal.returns-then-is_own_node
returns-then-is_own_node c = λ L at at_n.
    let T = c.args.tree.now.nodes in
    own_then T _ c.args.n _ _ _ (c.is_own_node.ensures c.if-is_own_node.true L at at_n) (c.in_ok-literal.ensures T L (NodeSet (c.args.n ∷ [])) at)
