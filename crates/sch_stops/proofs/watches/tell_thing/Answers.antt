-- The pieces are the end of the line.
use Rattle.sch_stops.proofs.watches.tell_thing.Goals as goal

pub returns-in-Refused : goal.returns-in-Refused
returns-in-Refused g c = rw (c.in-Refused.is, ← c.as_str.ensures) c.write_pieces.ensures
