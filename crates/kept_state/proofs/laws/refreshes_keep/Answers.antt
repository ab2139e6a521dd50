-- Let by let, then node by node under each pattern.
use Rattle.doc_edit_laws.specs.Along.{none}
use Rattle.doc_tree.specs.Laws.{WellFormed}
use Rattle.doc_tree.specs.Table.{Table}
use Rattle.xp_locality_laws.specs.Locality.{Changed}
use Rattle.kept_state.proofs.LetStepLemmas.{lets_go_on}
use Rattle.kept_state.proofs.LiveLemmas.{nothing}
use Rattle.kept_state.proofs.PairStepLemmas.{pairs_go_on}
use Rattle.kept_state.proofs.ReachedLemmas.{stops_at}
use Rattle.kept_state.proofs.laws.refreshes_keep.Goals as goal

pub returns : goal.returns
returns c = λ plan T sound formed.
    let changed : (T : Table) → WellFormed T → Changed T T nothing = (λ U made. c.units_stand.ensures.change U U nothing made none) in
    let given = c.units_are_local.ensures.given in
    let need = c.lets_need_those_before.ensures in
    let equal = c.same_outcomes_are_equal.ensures in
    let order = c.lets_stand_in_order.ensures in
    record {
      stops = stops_at equal order plan T;
      lets = lets_go_on given changed need equal order plan T sound formed;
      pairs = pairs_go_on given changed need equal order plan T sound formed;
    }
