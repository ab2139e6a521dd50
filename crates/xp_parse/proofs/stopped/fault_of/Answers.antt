use Rattle.xp_parse.proofs.Wholes.{nested_is, token_is, end_is}
use Rattle.xp_parse.proofs.stopped.fault_of.Goals as goal

pub returns-in-TooNested : goal.returns-in-TooNested
returns-in-TooNested c = nested_is _ _ _ _ _ c.in-TooNested.is c.offset-offset.ensures

pub returns-in-Some : goal.returns-in-Some
returns-in-Some c = token_is _ _ _ _ _ _ c.in-Unexpected.is c.in-Some.ensures c.offset-offset-in-Unexpected.ensures

pub returns-in-None : goal.returns-in-None
returns-in-None c = end_is _ _ _ _ _ c.in-Unexpected.is c.in-None.ensures c.fault_at_end.ensures
