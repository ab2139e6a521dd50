-- A node-set at the right of a text.
use Rattle.std.proofs.Common.{◌≡◌, Bool, IfOk, subst}
use Rattle.xp_values.proofs.TextCompareLemmas.{text_then_set}
use Rattle.xp_values.proofs.text_comparisons.texts_compared.Goals as goal

pub returns-in-Chars-NodeSet : goal.returns-in-Chars-NodeSet
returns-in-Chars-NodeSet c =
    subst (λ (meant : Bool). IfOk c.some_passes.result (λ holds. holds ≡ meant))
    (text_then_set c.args.tree.now.nodes c.args.op c.args.a.now c.args.b.now c.as_slice.result.now c.as_str.result.now (cc) (cc)) c.some_passes.ensures
