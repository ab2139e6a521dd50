-- The part that it is.
use Rattle.sch_flat.proofs.part_sizes.PartMeasured.size.Goals as goal

pub returns-in-Chars : goal.returns-in-Chars
returns-in-Chars c = rw c.in-Chars.is c.characters_size.ensures
