-- The rest of a file that was just opened is the whole of it.
use Rattle.sch_io.proofs.EndLemmas.{rest_is_whole}
use Rattle.sch_io.proofs.reading.read_all.Goals as goal

pub returns-in-Ok-clause-ends : goal.returns-in-Ok-clause-ends
returns-in-Ok-clause-ends g c = rest_is_whole c.read_rest.result c.args.name.now _ _ _ _ _ c.in-Ok.ensures.noted c.in-Ok.ensures.ends c.read_rest.ensures.ends
