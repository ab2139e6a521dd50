-- The pieces are the text.
use Rattle.sch_stops.specs.Watches.{watch_place}
use Rattle.sch_stops.proofs.watches.write_watch_place.Goals as goal

pub returns : goal.returns
unfolding watch_place
returns g c = rw (← c.format-line.ensures.text) c.write_pieces.ensures
