-- Prefixes that were not written whole leave a front.
use Rattle.std.proofs.Common.{Err, ap, ◌∙◌}
use Rattle.std.proofs.lemmas.Result.{err_from_is_err_and}
use Rattle.svrl_out.proofs.ReportLemmas.{reported_failed, reported_then}
use Rattle.svrl_out.proofs.report.Printer.write_held.Goals as goal

pub returns-in_err-write_namespaces : goal.returns-in_err-write_namespaces
returns-in_err-write_namespaces g c =
    let error = err_from_is_err_and c.from_residual.result c.from_residual.ensures.1 in
    reported_failed _ c.from_residual.result (error.1 ∙ ap Err error.2) c.in_err-write_namespaces.ensures

pub returns : goal.returns
returns g c = reported_then c.in_ok-write_namespaces.ensures c.write_patterns.ensures
