-- The patterns that there are.
use Rattle.sch_flat.proofs.schema_size.flat_size.Goals as goal

pub returns : goal.returns
returns c = c.size_with_patterns.ensures c.args.flat.now.patterns c.size_of_all.ensures
