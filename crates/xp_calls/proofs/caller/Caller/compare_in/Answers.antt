use Rattle.std.proofs.Common.{refl}
use Rattle.xp_meaning.specs.Conversions.{compare_in}
use Rattle.xp_calls.proofs.Takings.{taken_err, taken_ok}
use Rattle.xp_meaning.proofs.Exits.{ran_given}
use Rattle.xp_calls.proofs.caller.Caller.compare_in.Goals as goal

pub returns-in-Err : goal.returns-in-Err
unfolding compare_in
returns-in-Err g c = (taken_err _ _ _ _ refl _ c.in-Err.ensures)

pub returns-in-Ok : goal.returns-in-Ok
unfolding compare_in
returns-in-Ok g c = taken_ok _ _ _ _ refl c.in-Ok.ensures (ran_given _ _ _ _ c.compare_values.ensures)
