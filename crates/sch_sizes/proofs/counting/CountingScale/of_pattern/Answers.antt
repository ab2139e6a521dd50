-- Nothing.
use Rattle.std.proofs.Common.{sym, ◌∙◌}
use Rattle.sch_sizes.proofs.AmountLemmas.{cap-nothing}
use Rattle.sch_sizes.proofs.counting.CountingScale.of_pattern.Goals as goal

pub returns : goal.returns
returns c = c.none.ensures ∙ sym cap-nothing
