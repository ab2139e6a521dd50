use Rattle.std.proofs.Common.{◌∙◌, ap}
use Rattle.indexmap.specs.IndexMap.{insert_entry}
use Rattle.std.specs.String.{string_eq}
use Rattle.xp_types.proofs.ScopeLemmas.{scope-with_prefix}
use Rattle.xp_types.proofs.env.Env.add_prefix.Goals as goal

pub returns-clause-added : goal.returns-clause-added
returns-clause-added c =
    scope-with_prefix c.self.inside.prefixes _ _ _ _ c.in_ok-key.key _ _ c.self.view_is c.in_ok-key.ensures.ok c.requires
    (c.in_ok-insert.ensures.entries ∙ ap (insert_entry string_eq c.self.inside.prefixes.entries c.in_ok-key.key) c.in_ok-value.ensures)
