use Rattle.xp_types.proofs.ScopeLemmas.{scope-with_variable}
use Rattle.xp_types.proofs.env.Env.add_var.Goals as goal

pub returns-clause-added : goal.returns-clause-added
returns-clause-added c =
    scope-with_variable c.self.inside.variables _ _ _ _ c.in_ok-key.key _ (record { slot = c.args.slot; ty = c.args.ty }) c.self.view_is c.in_ok-key.ensures.ok c.requires c.in_ok-insert.ensures.entries
