use Rattle.std.proofs.Common.{◌∙◌, ap, ap₂, subst}
use Rattle.xp_values.specs.Outcomes.{Gives}
use Rattle.xp_values.specs.Texts.{translate}
use Rattle.xp_meaning.specs.Functions.{as_chars}
use Rattle.xp_calls.proofs.text_functions.translate.Goals as goal

pub returns : goal.returns
returns c =
    subst (λ r. Gives c.as_value.result (as_chars r))
    (ap₂ (λ s f. translate s f c.text_at-3.result.now) c.text_at.ensures c.text_at-2.ensures ∙ ap (translate _ _) c.text_at-3.ensures)
    (c.as_value.ensures _ c.translate.ensures)
