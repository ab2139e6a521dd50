use Rattle.std.proofs.Common.{◌∙◌, ap}
use Rattle.xp_meaning.specs.Conversions.{text_in, first_of}
use Rattle.xp_calls.proofs.Takings.{taken_err, taken_ok}
use Rattle.xp_meaning.proofs.Exits.{ran_given}
use Rattle.xp_calls.proofs.caller.Caller.text_in.Goals as goal

pub returns-in-Err : goal.returns-in-Err
unfolding text_in
returns-in-Err g c = taken_err _ _ _ _ (c.first_of.ensures ∙ ap first_of c.nodes_of.ensures) _ c.in-Err.ensures

pub returns-in-Ok : goal.returns-in-Ok
unfolding text_in
returns-in-Ok g c =
    taken_ok _ _ _ _ (c.first_of.ensures ∙ ap first_of c.nodes_of.ensures) c.in-Ok.ensures (ran_given _ _ _ _ (c.allocated.ensures _ c.to_text.ensures))
