use Rattle.xp_calls.proofs.caller.Caller.number_wanted.Goals as goal

pub returns : goal.returns
returns g c = c.number_value.ensures _ _ _ _ _ c.number_in-number.ensures
