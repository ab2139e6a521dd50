-- Each count.
use Rattle.sch_sizes.specs.inner.Amounts.{cap, plus}
use Rattle.sch_sizes.proofs.AmountLemmas.{same}
use Rattle.sch_sizes.proofs.amount.Amount.plus.Goals as goal

pub returns : goal.returns
unfolding cap plus
returns c = same _ (cap (plus c.args.self c.args.more)) c.saturating_add.ensures c.saturating_add-2.ensures c.saturating_add-3.ensures c.saturating_add-4.ensures c.saturating_add-5.ensures
