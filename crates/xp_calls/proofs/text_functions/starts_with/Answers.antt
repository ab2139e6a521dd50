use Rattle.std.proofs.Common.{◌∙◌, ap, ap₂}
use Rattle.xp_values.specs.Texts.{begins_with}
use Rattle.xp_values.specs.declared.values.Value.TheVariants.{Truth}
use Rattle.xp_calls.proofs.text_functions.starts_with.Goals as goal

pub returns : goal.returns
returns c = ap Truth (c.starts_with.ensures ∙ ap₂ begins_with c.text_at.ensures c.text_at-2.ensures)
