-- The unit is removed from each index.
use Rattle.read_index.proofs.ReadLemmas.{removes_all}
use Rattle.read_index.proofs.read_index.ReadIndex.remove.Goals as goal

pub returns : goal.returns
returns c = removes_all c.args.unit c.args.self.now _ c.remove.ensures c.remove-2.ensures c.remove-3.ensures c.remove-4.ensures
