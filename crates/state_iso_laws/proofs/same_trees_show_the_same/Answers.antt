-- Trees that are the same are renumbered; outcomes, the first fault and locations are the same.
use Rattle.state_iso_laws.proofs.ReportLemmas.{same-trees-show-the-same}
use Rattle.state_iso_laws.proofs.same_trees_show_the_same.Goals as goal

pub returns : goal.returns
returns c = same-trees-show-the-same c.same_trees_are_renumbered.ensures c.locations_stay.ensures c.units_move.ensures.own c.verdicts_move.ensures
