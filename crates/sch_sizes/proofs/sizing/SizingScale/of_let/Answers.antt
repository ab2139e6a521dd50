-- Its value is changed.
use Rattle.std.proofs.Common.{◌∙◌, ap}
use Rattle.sch_expansion.specs.Flat.{let_with}
use Rattle.sch_flat.specs.FlatDocument.{let_events}
use Rattle.sch_flat.specs.FlatSize.{escapes_len}
use Rattle.sch_sizes.specs.inner.Amounts.{sized_amount}
use Rattle.sch_sizes.specs.inner.Weights.{change_by}
use Rattle.sch_sizes.proofs.AmountLemmas.{sized_cap}
use Rattle.sch_sizes.proofs.sizing.SizingScale.of_let.Goals as goal

pub returns : goal.returns
returns c =
    let change = change_by c.args.self.now.filled in
    let decl = c.args.decl.now in
    c.of_size.ensures
    ∙ ap sized_amount (c.let_size.ensures (change decl.value) (c.len.ensures ∙ ap (λ t. escapes_len (change t)) c.as_str.ensures))
    ∙ sized_cap (let_events (let_with change decl))
