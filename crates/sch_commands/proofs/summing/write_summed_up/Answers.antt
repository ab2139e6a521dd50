-- Memory ran out before it was written, or it was written, or a front of it.
use Rattle.std.proofs.lemmas.Result.{err_from_is_err_and}
use Rattle.svrl_summary.specs.Lines.{summary_lines}
use Rattle.sch_commands.proofs.EndLemmas.{memory_written}
use Rattle.sch_commands.proofs.summing.write_summed_up.Goals as goal

pub returns-in_err-summary-clause-wrote : goal.returns-in_err-summary-clause-wrote
returns-in_err-summary-clause-wrote g c =
    let error = err_from_is_err_and c.from_residual.result c.from_residual.ensures.1 in
    memory_written _ (summary_lines c.args.report.now) c.from_residual.result error.0 error.1 error.2
