use Rattle.xp_calls.proofs.caller.Caller.string.Goals as goal

pub returns : goal.returns
returns g c = c.text_value.ensures _ _ _ _ _ c.text_or_own.ensures
