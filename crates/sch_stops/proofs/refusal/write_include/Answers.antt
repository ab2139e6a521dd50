-- The pieces are the text.
use Rattle.sch_stops.specs.Refusals.{include_text}
use Rattle.sch_stops.proofs.refusal.write_include.Goals as goal

pub returns : goal.returns
unfolding include_text
returns g c = rw (← c.include_words-kind.ensures) c.write_pieces.ensures
