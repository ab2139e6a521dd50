use Rattle.std.proofs.Common.{sym, ◌∙◌}
use Rattle.xp_outcome.proofs.Sets.{stands_already}
use Rattle.xp_outcome.proofs.read_list.ReadList.meets_again.Goals as goal

pub returns-then-is_at-clause-again : goal.returns-then-is_at-clause-again
returns-then-is_at-clause-again g c = λ _. stands_already _ _ _ (sym c.is_at.ensures ∙ c.if-is_at.true)

pub returns-clause-again : goal.returns-clause-again
returns-clause-again g c = λ is. stands_already _ _ _ (sym c.is_at-2.ensures ∙ is)
