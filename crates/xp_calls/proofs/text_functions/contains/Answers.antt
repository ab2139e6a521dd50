use Rattle.std.proofs.Common.{◌∙◌, ap, ap₂}
use Rattle.xp_values.specs.Texts.{contains}
use Rattle.xp_values.specs.declared.values.Value.TheVariants.{Truth}
use Rattle.xp_calls.proofs.text_functions.contains.Goals as goal

pub returns : goal.returns
returns c = ap Truth (c.contains.ensures ∙ ap₂ contains c.text_at.ensures c.text_at-2.ensures)
