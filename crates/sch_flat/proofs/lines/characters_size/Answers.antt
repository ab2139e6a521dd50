-- One line, where there are characters.
use Rattle.std.proofs.Common.{length, ap, sym, ◌∙◌}
use Rattle.std.proofs.Common.{◌==◌}
use Rattle.pyx_core.specs.Escapes.{escaped}
use Rattle.sch_flat.specs.FlatSize.{capped}
use Rattle.sch_flat.proofs.SizeLemmas.{characters_is, no_characters}
use Rattle.sch_flat.proofs.lines.characters_size.Goals as goal

pub returns-then-is_empty : goal.returns-then-is_empty
returns-then-is_empty c =
    c.none.ensures ∙ no_characters c.args.text.now (ap (λ t. length t == 0) (sym c.as_str-text.ensures) ∙ sym c.is_empty.ensures ∙ c.if-is_empty.true)

pub returns : goal.returns
returns c =
    characters_is c.args.text.now _ _ (ap (λ t. length t == 0) (sym c.as_str-text.ensures) ∙ sym c.is_empty.ensures ∙ c.if-is_empty.false)
    (c.escaped_len.ensures ∙ ap (λ t. capped (length (escaped t))) c.as_str-text.ensures) c.saturating_add.ensures
