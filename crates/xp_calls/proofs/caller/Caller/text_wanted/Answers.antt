use Rattle.xp_calls.proofs.caller.Caller.text_wanted.Goals as goal

pub returns : goal.returns
returns g c = c.text_value.ensures _ _ _ _ _ c.text_in-text.ensures
