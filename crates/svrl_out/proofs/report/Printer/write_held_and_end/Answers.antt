-- What was not written whole leaves a front.
use Rattle.std.proofs.Common.{Err, ap, ◌∙◌, codes}
use Rattle.std.proofs.lemmas.Result.{err_from_is_err_and}
use Rattle.pyx_write.specs.Written.{end_line}
use Rattle.svrl_out.proofs.ReportLemmas.{reported_both, reported_err, reported_stopped}
use Rattle.svrl_out.proofs.report.Printer.write_held_and_end.Goals as goal

pub returns-in_err-write_held : goal.returns-in_err-write_held
returns-in_err-write_held g c =
    let error = err_from_is_err_and c.from_residual.result c.from_residual.ensures.1 in
    reported_stopped (end_line (codes "svrl:schematron-output")) c.from_residual.result (error.1 ∙ ap Err error.2) c.in_err-write_held.ensures

pub returns-in_err-write_end : goal.returns-in_err-write_end
returns-in_err-write_end g c =
    let error = err_from_is_err_and c.from_residual-in_err-write_end.result c.from_residual-in_err-write_end.ensures.1 in
    reported_both c.in_ok-write_held.ensures (reported_err c.from_residual-in_err-write_end.result (error.1 ∙ ap Err error.2) c.in_err-write_end.ensures)
