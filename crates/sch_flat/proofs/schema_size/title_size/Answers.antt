-- The title, where there is one.
use Rattle.sch_flat.specs.FlatDocument.{characters}
use Rattle.sch_flat.proofs.schema_size.title_size.Goals as goal

pub returns-in-Some : goal.returns-in-Some
returns-in-Some c = rw c.in-Some.is (c.element_size.ensures (characters c.in-Some.title) c.characters_size.ensures)
