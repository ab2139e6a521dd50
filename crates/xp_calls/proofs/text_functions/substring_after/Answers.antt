use Rattle.std.proofs.Common.{Ok, ap₂, subst}
use Rattle.xp_values.specs.Outcomes.{Gives}
use Rattle.xp_values.specs.Texts.{substring_after}
use Rattle.xp_values.specs.declared.values.Value.TheVariants.{Chars}
use Rattle.xp_calls.proofs.text_functions.substring_after.Goals as goal

pub returns : goal.returns
returns c =
    subst (λ text. Gives c.as_chars.result (Ok (Chars text))) (ap₂ substring_after c.text_at.ensures c.text_at-2.ensures)
    (c.as_chars.ensures _ c.substring_after.ensures)
