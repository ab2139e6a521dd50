-- The opening, then the texts and the end.
use Rattle.std.proofs.Common.{refl}
use Rattle.pyx_write.specs.Written.{end_line}
use Rattle.sch_io.proofs.Writes.{wrote_then, wrote_stopped}
use Rattle.svrl_read.specs.Lines.{finding_name}
use Rattle.svrl_read.proofs.writing.write_finding.Goals as goal

pub returns-in_err-write_texts : goal.returns-in_err-write_texts
returns-in_err-write_texts g c =
    wrote_then c.in_ok-write_finding_opening.ensures
    (wrote_stopped (end_line (finding_name c.args.finding.now.assertion)) c.in_err-write_texts.ensures refl c.from_residual-in_err-write_texts.ensures.0)

pub returns : goal.returns
returns g c =
    wrote_then c.in_ok-write_finding_opening.ensures (wrote_then c.in_ok-write_texts.ensures (rw c.finding_name.ensures at c.write_end.ensures))
