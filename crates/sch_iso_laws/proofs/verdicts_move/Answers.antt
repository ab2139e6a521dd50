-- Outcomes are the same along document order.
use Rattle.sch_iso_laws.proofs.VerdictLemmas.{verdicts-move}
use Rattle.sch_iso_laws.proofs.verdicts_move.Goals as goal

pub returns : goal.returns
returns c = verdicts-move c.units_move.ensures.own
