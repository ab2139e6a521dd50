use Rattle.xp_outcome.proofs.Outcomes.{gather-append}
use Rattle.xp_outcome.proofs.laws.gather_in_parts.Goals as goal

pub returns : goal.returns
returns g c = λ act piece i xs ys. gather-append act piece i xs ys
