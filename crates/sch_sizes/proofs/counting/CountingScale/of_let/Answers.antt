-- One of them.
use Rattle.std.proofs.Common.{refl, ◌∙◌}
use Rattle.sch_sizes.proofs.AmountLemmas.{many_cap}
use Rattle.sch_sizes.proofs.counting.CountingScale.of_let.Goals as goal

pub returns : goal.returns
returns c = c.counted.ensures ∙ many_cap 0 0 1 refl refl refl
