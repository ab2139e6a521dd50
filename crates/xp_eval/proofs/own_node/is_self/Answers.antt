use Rattle.xp_eval.proofs.OwnNode.{is_own_step}
use Rattle.xp_eval.proofs.own_node.is_self.Goals as goal

pub returns : goal.returns
returns c = λ plain T L.
    is_own_step T L c.args.step.now (c.is_self_axis.ensures c.if-not-is_self_axis.false) (c.is_any.ensures c.if-not-is_any.false) (c.is_plain.ensures plain)
