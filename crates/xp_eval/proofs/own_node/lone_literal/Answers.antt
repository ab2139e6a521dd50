use Rattle.std.proofs.Common.{sym, ◌∙◌, ap}
use Rattle.xp_typed_tree.specs.declared.expr.TypedExpr.TheVariants as exprs
use Rattle.xp_eval.proofs.OwnNode.{literal_compared}
use Rattle.xp_eval.proofs.own_node.lone_literal.Goals as goal

pub returns-in-Literal : goal.returns-in-Literal
returns-in-Literal c = λ T L v at.
    literal_compared T L c.args.rest.now c.in_ok-operand.operand.now c.as_str.result.now v at c.in_ok-operand.ensures
    (c.in-Literal.is ∙ ap exprs.Literal (sym c.as_str.ensures))
