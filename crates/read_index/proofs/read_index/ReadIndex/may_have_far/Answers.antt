-- No unit has a cell in an index that is unused.
use Rattle.read_index.proofs.ReadLemmas.{may_read_far}
use Rattle.read_index.proofs.read_index.ReadIndex.may_have_far.Goals as goal

pub returns : goal.returns
returns c = may_read_far c.is_unused.result c.args.self.now c.is_unused.ensures
