-- Memory ran out before the text was made, or it was written, or a front of it.
use Rattle.std.proofs.lemmas.Result.{err_from_is_err_and}
use Rattle.sch_commands.specs.inner.Measurers.{text_of_both}
use Rattle.sch_commands.proofs.EndLemmas.{memory_written}
use Rattle.sch_commands.proofs.measuring.write_measured.Goals as goal

pub returns-in_err-text-clause-wrote : goal.returns-in_err-text-clause-wrote
returns-in_err-text-clause-wrote g c =
    let error = err_from_is_err_and c.from_residual.result c.from_residual.ensures.1 in
    memory_written _ (text_of_both c.args.first.now c.args.last.now) c.from_residual.result error.0 error.1 error.2
