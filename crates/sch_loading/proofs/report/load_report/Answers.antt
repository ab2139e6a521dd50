-- The tree of the document gives the report.
use Rattle.std.proofs.Common.{◌∙◌, [], ◌∷◌, Err, ap}
use Rattle.std.proofs.lemmas.Result.{err_from_is_err_and}
use Rattle.doc_tree.specs.Table.{Contents}
use Rattle.svrl_read.specs.declared.value.SvrlReport.{SvrlReport}
use Rattle.sch_loading.specs.Reads.{file}
use Rattle.sch_loading.specs.Loading.{Loading, Saying}
use Rattle.sch_loading.proofs.PartLemmas.{reads_on, reads_stopped}
use Rattle.sch_loading.proofs.report.load_report.Goals as goal

pub returns-in_err-tree : goal.returns-in_err-tree
returns-in_err-tree g c =
    let error = err_from_is_err_and c.from_residual.result c.from_residual.ensures.1 in
    reads_stopped _ _ (file c.args.name ∷ []) [] (λ files. Loading files c.args.name) (λ files. Saying) (λ (tree : Contents). tree.nodes) (λ (report : SvrlReport). report)
    c.in_err-tree.field-0.0 c.from_residual.result (error.1 ∙ ap Err error.2) c.in_err-tree.ensures.reads

pub returns : goal.returns
returns g c =
    reads_on _ _ (file c.args.name ∷ []) (λ files. Loading files c.args.name) Saying (λ (tree : Contents). tree.nodes) (λ (report : SvrlReport). report) c.in_ok-tree.tree c.report_of.result
    c.in_ok-tree.ensures.reads c.report_of.ensures.ends c.report_of.ensures.inner
