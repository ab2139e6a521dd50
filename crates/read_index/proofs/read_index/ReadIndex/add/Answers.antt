-- What was kept of it is forgotten where memory ended.
use Rattle.read_index.proofs.ReadLemmas.{stays_after}
use Rattle.read_index.proofs.read_index.ReadIndex.add.Goals as goal

pub returns-in-Err-clause-unchanged : goal.returns-in-Err-clause-unchanged
returns-in-Err-clause-unchanged c = stays_after c.args.unit c.args.self.now c.put.new.self c.remove.new.self c.requires.none c.put.ensures.others
    c.remove.ensures
