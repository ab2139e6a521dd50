-- Let by let, in order: each is that of the tree, since those before it are.
use Rattle.doc_edit_laws.specs.Along.{none}
use Rattle.kept_state.proofs.LiveLemmas.{nothing}
use Rattle.kept_state.proofs.RightLemmas as lemma
use Rattle.kept_state.proofs.laws.kept_is_right.Goals as goal

pub returns : goal.returns
returns c =
    lemma.kept_is_right c.units_are_local.ensures.given (λ T formed. c.units_stand.ensures.change T T nothing formed none) c.lets_need_those_before.ensures
    c.lets_stand_in_order.ensures
