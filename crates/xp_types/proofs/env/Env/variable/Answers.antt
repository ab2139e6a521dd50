use Rattle.std.proofs.Common.{ap, ◌∙◌}
use Rattle.xp_types.proofs.ScopeLemmas.{variable-found}
use Rattle.xp_types.proofs.env.Env.variable.Goals as goal

pub returns : goal.returns
returns c = variable-found c.self.inside.variables.entries _ _ _ (ap (λ s. s.variables) c.self.view_is) (c.copied.ensures ∙ c.get.ensures.value)
