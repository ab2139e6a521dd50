use Rattle.xp_meaning.proofs.Dot.{dot_is_context}
use Rattle.xp_meaning.proofs.laws.dot_is_context.Goals as goal

pub returns : goal.returns
returns c = λ T formed. dot_is_context T (c.well_formed_is_enough.ensures T formed).0
