-- What abstract rules amount to, with what they extend.
use Rattle.std.specs.Prelude.{List, map}
use Rattle.sch_model.specs.declared.raw.RawRule.{RawRule}
use Rattle.sch_expansion.specs.Stands.{stands_for}
use Rattle.sch_sizes.specs.declared.amount.Amount.{Amount}
use Rattle.sch_sizes.specs.inner.Amounts.{cap}
use Rattle.sch_sizes.specs.inner.Sums.{items_meant}
use Rattle.sch_sizes.specs.inner.Weights.{Weights}

abbrev pub stands_amounts : Weights → List RawRule → List RawRule → List Amount
stands_amounts weights all rules = map (λ rule. cap (items_meant weights (stands_for all) rule.items)) rules
