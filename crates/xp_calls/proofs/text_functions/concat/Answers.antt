use Rattle.xp_calls.proofs.text_functions.concat.Goals as goal

pub returns : goal.returns
returns c = c.as_value.ensures _ c.join.ensures
