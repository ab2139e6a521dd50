use Rattle.std.proofs.Common.{Ok, ◌∙◌, ap, ap₂, subst}
use Rattle.xp_values.specs.Outcomes.{Gives}
use Rattle.xp_values.specs.Texts.{substring}
use Rattle.xp_values.specs.declared.values.Value.TheVariants.{Chars}
use Rattle.xp_calls.proofs.text_functions.substring.Goals as goal

pub returns : goal.returns
returns c =
    subst (λ text. Gives c.as_chars.result (Ok (Chars text)))
    (ap₂ (λ s n. substring s n c.length_in.result) c.text_at.ensures c.number_at.ensures ∙ ap (substring _ _) c.length_in.ensures)
    (c.as_chars.ensures _ c.substring.ensures)
