-- The opening, then the text and the end.
use Rattle.std.proofs.Common.{refl}
use Rattle.pyx_write.specs.Written.{end_line}
use Rattle.sch_io.proofs.Writes.{wrote_then, wrote_stopped}
use Rattle.pyx_write.proofs.elements.write_text.Goals as goal

pub returns-in_err-write_chars : goal.returns-in_err-write_chars
returns-in_err-write_chars g c = rw (← c.as_str.ensures)
    (wrote_then c.in_ok-write_opening.ensures (wrote_stopped (end_line c.args.name.now) c.in_err-write_chars.ensures refl c.from_residual-in_err-write_chars.ensures.0))

pub returns : goal.returns
returns g c = rw (← c.as_str.ensures) (wrote_then c.in_ok-write_opening.ensures (wrote_then c.in_ok-write_chars.ensures c.write_end.ensures))
