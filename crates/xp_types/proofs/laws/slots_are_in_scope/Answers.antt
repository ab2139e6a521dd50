use Rattle.xp_types.proofs.SlotLemmas.{slots-known, pattern-slots-known}
use Rattle.xp_types.proofs.laws.slots_are_in_scope.Goals as goal

pub returns-clause-expressions : goal.returns-clause-expressions
returns-clause-expressions c = slots-known

pub returns-clause-patterns : goal.returns-clause-patterns
returns-clause-patterns c = pattern-slots-known
