-- The pieces are the line.
use Rattle.sch_stops.specs.EditLines.{no_history_line}
use Rattle.sch_stops.proofs.edit_lines.write_no_history_line.Goals as goal

pub returns : goal.returns
unfolding no_history_line
returns g c = rw (← c.format-number.ensures.text) c.write_pieces.ensures
