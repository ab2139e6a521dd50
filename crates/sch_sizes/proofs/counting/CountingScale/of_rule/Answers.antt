-- One of them.
use Rattle.std.proofs.Common.{refl, ◌∙◌}
use Rattle.sch_sizes.proofs.AmountLemmas.{many_cap}
use Rattle.sch_sizes.proofs.counting.CountingScale.of_rule.Goals as goal

pub returns : goal.returns
returns c = c.counted.ensures ∙ many_cap 1 0 0 refl refl refl
