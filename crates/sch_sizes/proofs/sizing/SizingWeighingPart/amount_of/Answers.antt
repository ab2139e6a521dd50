-- Its size.
use Rattle.std.proofs.Common.{◌∙◌, ap}
use Rattle.sch_sizes.specs.inner.Amounts.{sized_amount}
use Rattle.sch_sizes.proofs.AmountLemmas.{sized_cap}
use Rattle.sch_sizes.proofs.sizing.SizingWeighingPart.amount_of.Goals as goal

pub returns : goal.returns
returns c = c.of_size.ensures ∙ ap sized_amount c.part_size.ensures ∙ sized_cap _
