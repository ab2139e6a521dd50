use Rattle.std.proofs.Common.{◌∙◌, ap, sym}
use Rattle.xp_values.specs.Comparisons.{compare}
use Rattle.xp_values.specs.declared.values.Value.TheVariants.{Chars, NodeSet}
use Rattle.xp_calls.proofs.Comparing.{lone_value}
use Rattle.xp_calls.proofs.comparisons.lone_text.Goals as goal

pub returns : goal.returns
returns c = λ op ns.
    let T = c.args.tree.now.nodes in
    lone_value T op ns c.in_ok-n.n c.args.value.now c.in_ok-n.ensures (sym c.holds_kids.ensures ∙ c.if-holds_kids.false)
    ∙ ap (λ chars. compare T op (NodeSet ns) (Chars chars)) (sym c.value.ensures)
