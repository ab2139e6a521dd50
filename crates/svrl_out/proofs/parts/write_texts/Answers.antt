-- The diagnostics, the properties, then the message.
use Rattle.std.proofs.Common.{refl}
use Rattle.sch_io.proofs.Writes.{wrote_then, wrote_stopped}
use Rattle.svrl_out.specs.Report.{message_lines}
use Rattle.svrl_out.proofs.parts.write_texts.Goals as goal

pub returns-in_err-write_properties : goal.returns-in_err-write_properties
returns-in_err-write_properties g c =
    wrote_then c.in_ok-write_diagnostics.ensures (wrote_stopped (message_lines c.args.finding.now.message) c.in_err-write_properties.ensures refl c.from_residual-in_err-write_properties.ensures.0)

pub returns : goal.returns
returns g c = wrote_then c.in_ok-write_diagnostics.ensures (wrote_then c.in_ok-write_properties.ensures c.write_text.ensures)
