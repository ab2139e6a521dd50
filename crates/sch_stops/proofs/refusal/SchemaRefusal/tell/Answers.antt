-- The pieces are the line.
use Rattle.sch_stops.proofs.refusal.SchemaRefusal.tell.Goals as goal

pub returns-in-File : goal.returns-in-File
returns-in-File g c = rw (c.in-File.is, ← c.as_str.ensures) c.tell_of.ensures
