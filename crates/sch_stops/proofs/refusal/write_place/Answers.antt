-- The pieces are the text.
use Rattle.sch_stops.specs.Refusals.{place_text}
use Rattle.sch_stops.proofs.refusal.write_place.Goals as goal

pub returns : goal.returns
unfolding place_text
returns g c = rw (← c.as_str-location.ensures) c.write_pieces.ensures
