use Rattle.xp_outcome.proofs.Runs.{ran_done}
use Rattle.xp_calls.proofs.caller.Caller.as_wanted.Goals as goal

pub returns-in-AsItIs : goal.returns-in-AsItIs
returns-in-AsItIs g c = rw c.in-AsItIs.is (ran_done _ _ _)

pub returns-in-AsText : goal.returns-in-AsText
returns-in-AsText g c = rw c.in-AsText.is c.text_wanted.ensures

pub returns-in-AsNumber : goal.returns-in-AsNumber
returns-in-AsNumber g c = rw c.in-AsNumber.is c.number_wanted.ensures
