-- The pieces are the line.
use Rattle.sch_stops.specs.Refusals.{script_fault_line}
use Rattle.sch_stops.proofs.refusal.tell_script_fault.Goals as goal

pub returns : goal.returns
unfolding script_fault_line
returns g c = rw (← c.format-line.ensures.text, ← c.script_words-kind.ensures) c.write_pieces.ensures
