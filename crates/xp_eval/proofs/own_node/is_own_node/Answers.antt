use Rattle.std.proofs.Common.{sym, ◌∙◌}
use Rattle.xp_eval.proofs.OwnNode.{own_node}
use Rattle.xp_eval.proofs.own_node.is_own_node.Goals as goal

pub returns-else-not-is_here : goal.returns-else-not-is_here
returns-else-not-is_here c = λ own L at at_n.
    let T = c.args.tree.now.nodes in
    own_node T L c.args.expr.now at c.in-Path.start _ c.deref.result.now c.in-Path.is c.deref.ensures.value
    (c.is_here.ensures c.if-not-is_here.false) c.args.n at_n
    (c.is_lone_self.ensures own T L at.current c.args.n c.axes_by_cells.ensures (sym c.contains.ensures ∙ c.if-not-contains.false))
