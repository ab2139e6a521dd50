use Rattle.std.proofs.Common.{◌∙◌, ap, is_some}
use Rattle.xp_types.specs.Scope.{bound}
use Rattle.xp_types.proofs.ScopeLemmas.{bound-looked_up}
use Rattle.xp_types.proofs.env.Env.has_prefix.Goals as goal

pub returns : goal.returns
returns c =
    c.contains_key.ensures ∙ ap is_some (bound-looked_up c.self.inside.prefixes.entries c.args.prefix.now ∙ ap (λ s. bound s.prefixes c.args.prefix.now) c.self.view_is)
