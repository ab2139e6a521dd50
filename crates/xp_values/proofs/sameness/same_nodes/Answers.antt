use Rattle.std.proofs.Common.{◌∙◌, nat_eq}
use lib.Pointwise.{pointwise}
use Rattle.xp_values.proofs.SameLemmas.{lists_same}
use Rattle.xp_values.proofs.sameness.same_nodes.Goals as goal

pub returns : goal.returns
returns c =
    lists_same c.args.a.now c.args.b.now c.eq.result (c.eq.ensures ∙ (λ i. pointwise nat_eq (c.as_slice.ensures i) (c.as_slice-2.ensures i)))
