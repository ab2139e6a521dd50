-- Nodes that go leave their numbers.
use Rattle.edit_way_laws.proofs.NumberLemmas.{numbers-grow}
use Rattle.edit_way_laws.proofs.numbers_grow.Goals as goal

pub returns : goal.returns
returns c = numbers-grow
