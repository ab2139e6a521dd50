use Rattle.std.proofs.Common.{◌∙◌, ap}
use Rattle.xp_outcome.proofs.Runs.{ran_bind, ran_stop}
use Rattle.xp_meaning.proofs.Exits.{ran_done_at}
use Rattle.xp_values.specs.Texts.{string_length}
use Rattle.xp_values.specs.declared.values.Value.TheVariants as values
use Rattle.xp_calls.proofs.caller.Caller.length_of.Goals as goal

pub returns-in-Err : goal.returns-in-Err
returns-in-Err g c = ran_stop _ _ c.in-Err.ensures

pub returns-in-Ok : goal.returns-in-Ok
returns-in-Ok g c = ran_bind _ c.in-Ok.ensures (ran_done_at _ _ _ (ap values.Number (c.string_length.ensures ∙ ap string_length c.as_str.ensures)))
