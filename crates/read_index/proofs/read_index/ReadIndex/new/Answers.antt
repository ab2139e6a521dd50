-- The indexes have nothing.
use Rattle.read_index.proofs.ReadLemmas.{none_read}
use Rattle.read_index.proofs.read_index.ReadIndex.new.Goals as goal

pub returns : goal.returns
returns c = none_read _ c.new.ensures c.new-2.ensures c.new-3.ensures c.new-4.ensures
