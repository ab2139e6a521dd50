use Rattle.std.proofs.Common.{◌∙◌, ap, sym}
use Rattle.xp_values.specs.Numerals.{text_to_number}
use Rattle.xp_meaning.proofs.Exits.{gives_fault, gives_memory}
use Rattle.xp_calls.proofs.converting.number_of_node.Goals as goal

pub returns-in_err-text : goal.returns-in_err-text
returns-in_err-text c = gives_memory _ _ c.from_residual.ensures.1

pub returns-in_err-text_to_number : goal.returns-in_err-text_to_number
returns-in_err-text_to_number c =
    gives_fault _ _ _ c.from_residual-in_err-text_to_number.ensures.1
    (sym (c.in_err-text_to_number.ensures.value ∙ ap text_to_number (c.as_str.ensures ∙ c.in_ok-text.ensures)))

pub returns : goal.returns
returns c = sym (c.in_ok-text_to_number.ensures.value ∙ ap text_to_number (c.as_str.ensures ∙ c.in_ok-text.ensures))
