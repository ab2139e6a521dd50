-- A let is run under lets whose nodes live; the units that stay read none that has changed.
use Rattle.doc_edit_laws.specs.Along.{none}
use Rattle.kept_state.proofs.LetLemmas as lemma
use Rattle.kept_state.proofs.LiveLemmas.{nothing}
use Rattle.kept_state.proofs.laws.lets_keep.Goals as goal

pub returns : goal.returns
returns c =
    lemma.lets_keep c.units_are_local.ensures.given (λ T formed. c.units_stand.ensures.change T T nothing formed none) c.lets_need_those_before.ensures
    c.same_outcomes_are_equal.ensures
