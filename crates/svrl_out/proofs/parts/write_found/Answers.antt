-- The opening, then the texts and the end.
use Rattle.std.proofs.Common.{refl}
use Rattle.pyx_write.specs.Written.{end_line}
use Rattle.sch_io.proofs.Writes.{wrote_then, wrote_stopped}
use Rattle.svrl_out.proofs.parts.write_found.Goals as goal

pub returns-in_err-write_texts : goal.returns-in_err-write_texts
returns-in_err-write_texts g c = rw (← c.finding_name-name.ensures)
    (wrote_then c.in_ok-write_opening.ensures (wrote_stopped (end_line c.finding_name-name.result.now) c.in_err-write_texts.ensures refl c.from_residual-in_err-write_texts.ensures.0))

pub returns : goal.returns
returns g c = rw (← c.finding_name-name.ensures) (wrote_then c.in_ok-write_opening.ensures (wrote_then c.in_ok-write_texts.ensures c.write_end.ensures))
