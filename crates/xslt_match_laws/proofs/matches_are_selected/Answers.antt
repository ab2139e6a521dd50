use Rattle.xslt_match_laws.proofs.Selected.{matches_are_selected}
use Rattle.xslt_match_laws.proofs.matches_are_selected.Goals as goal

pub returns : goal.returns
returns c = λ T formed. matches_are_selected T formed (c.well_formed_is_enough.ensures T formed).0 (c.well_formed_is_enough.ensures T formed).1
