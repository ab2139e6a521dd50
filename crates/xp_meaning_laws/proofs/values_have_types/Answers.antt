use Rattle.xp_meaning_laws.proofs.Types.{values_have_types}
use Rattle.xp_meaning_laws.proofs.values_have_types.Goals as goal

pub returns-clause-typed : goal.returns-clause-typed
returns-clause-typed c = values_have_types
