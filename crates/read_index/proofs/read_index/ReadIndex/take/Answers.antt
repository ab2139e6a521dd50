-- A unit that is taken from one index is removed from all.
use Rattle.read_index.proofs.ReadLemmas.{removes_after}
use Rattle.read_index.proofs.read_index.ReadIndex.take.Goals as goal

pub returns-in-Some-clause-took : goal.returns-in-Some-clause-took
returns-in-Some-clause-took c = (
  c.in-Some.ensures.took.0,
  removes_after c.in-Some.unit c.args.self.now c.take_cell.new.self c.remove.new.self c.in-Some.ensures.took.1 c.remove.ensures,
)
