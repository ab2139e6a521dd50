use Rattle.std.proofs.Common.{refl}
use Rattle.std.proofs.lemmas.List.{take-map}
use Rattle.xp_types.specs.inner.ScopeTables.{variable_in}
use Rattle.xp_types.proofs.env.Env.cut_vars.Goals as goal

pub returns : goal.returns
returns c = rw (c.truncate.ensures.entries, ← c.self.view_is, ← take-map variable_in c.args.len c.self.inside.variables.entries) refl
