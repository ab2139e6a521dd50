-- The opening, then what the output holds and the end.
use Rattle.std.proofs.Common.{codes, refl}
use Rattle.pyx_write.specs.Written.{end_line}
use Rattle.sch_io.proofs.Writes.{wrote_then, wrote_stopped}
use Rattle.svrl_read.proofs.writing.write_svrl.Goals as goal

pub returns-in_err-write_held : goal.returns-in_err-write_held
returns-in_err-write_held g c =
    wrote_then c.in_ok-write_output_opening.ensures
    (wrote_stopped (end_line (codes "svrl:schematron-output")) c.in_err-write_held.ensures refl c.from_residual-in_err-write_held.ensures.0)

pub returns : goal.returns
returns g c = wrote_then c.in_ok-write_output_opening.ensures (wrote_then c.in_ok-write_held.ensures c.write_end.ensures)
