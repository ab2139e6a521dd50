-- Nothing.
use Rattle.std.proofs.Common.{refl}
use Rattle.sch_sizes.specs.inner.Amounts.{nothing}
use Rattle.sch_sizes.proofs.amount.Amount.none.Goals as goal

pub returns : goal.returns
unfolding nothing
returns c = refl
