use Rattle.xp_meaning_laws.proofs.Knowing.{cells_read_are_live}
use Rattle.xp_meaning_laws.proofs.cells_read_are_live.Goals as goal

pub returns : goal.returns
returns c = λ T formed. cells_read_are_live T (c.well_formed_is_enough.ensures T formed).0 (c.well_formed_is_enough.ensures T formed).1
