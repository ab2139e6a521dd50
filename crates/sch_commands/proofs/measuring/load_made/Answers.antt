-- The texts stand on the shelf under their names.
use Rattle.std.proofs.Common.{[], refl}
use Rattle.std.proofs.lemmas.Result.{err_from_is_err_and}
use Rattle.sch_commands.specs.Behaviours.{Making}
use Rattle.sch_commands.specs.inner.Followers.{scripted_by}
use Rattle.sch_loading.proofs.PartLemmas.{reads_nothing}
use Rattle.sch_commands.proofs.MeasureLemmas.{made-from}
use Rattle.sch_commands.proofs.measuring.load_made.Goals as goal

pub returns-in_err-shelf-clause-reads : goal.returns-in_err-shelf-clause-reads
returns-in_err-shelf-clause-reads c = λ state.
    let error = err_from_is_err_and c.from_residual.result c.from_residual.ensures.1 in
    reads_nothing state [] (λ files. Making c.args.items) scripted_by c.from_residual.result error.0 error.1 error.2

pub returns-in_err-schema-clause-reads : goal.returns-in_err-schema-clause-reads
returns-in_err-schema-clause-reads c = λ state.
    let error = err_from_is_err_and c.from_residual-in_err-schema.result c.from_residual-in_err-schema.ensures.1 in
    reads_nothing state [] (λ files. Making c.args.items) scripted_by c.from_residual-in_err-schema.result error.0 error.1 error.2

pub returns-in_err-document-clause-reads : goal.returns-in_err-document-clause-reads
returns-in_err-document-clause-reads c = λ state.
    let error = err_from_is_err_and c.from_residual-in_err-document.result c.from_residual-in_err-document.ensures.1 in
    reads_nothing state [] (λ files. Making c.args.items) scripted_by c.from_residual-in_err-document.result error.0 error.1 error.2

pub returns-in_err-script-clause-reads : goal.returns-in_err-script-clause-reads
returns-in_err-script-clause-reads c = λ state.
    let error = err_from_is_err_and c.from_residual-in_err-script.result c.from_residual-in_err-script.ensures.1 in
    reads_nothing state [] (λ files. Making c.args.items) scripted_by c.from_residual-in_err-script.result error.0 error.1 error.2

pub returns-clause-reads : goal.returns-clause-reads
returns-clause-reads c = λ state.
    made-from state c.args.items c.in_ok-shelf.shelf.files _ c.in_ok-schema.schema c.in_ok-document.document c.in_ok-script.script c.load_from.result
    c.in_ok-shelf.ensures refl c.in_ok-schema.ensures c.in_ok-document.ensures c.in_ok-script.ensures c.load_from.ensures.loaded c.load_from.ensures.memory
