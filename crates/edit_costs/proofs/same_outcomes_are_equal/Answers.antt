use Rattle.edit_costs.proofs.SameLemmas.{equal-same, outcome-equal}
use Rattle.edit_costs.proofs.same_outcomes_are_equal.Goals as goal

pub returns : goal.returns
returns c = λ a b. (outcome-equal a b, equal-same a b)
