-- What is held at once.
use Rattle.std.specs.List.{flat_map}
use Rattle.sch_flat.specs.FlatDocument.{part_events}
use Rattle.sch_flat.proofs.notes.note_size.Goals as goal

pub returns : goal.returns
returns c = c.element_size.ensures (flat_map part_events c.args.note.now.message) c.size_of_all-held.ensures
