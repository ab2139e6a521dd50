use Rattle.pyx_core.proofs.Undoing.{no_line_end}
use Rattle.pyx_core.proofs.laws.escaped_holds_no_line_end.Goals as goal

pub returns : goal.returns
returns c = no_line_end
