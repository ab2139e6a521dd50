-- The report is read and its summary written, or the run is stopped before.
use Rattle.std.proofs.Common.{◌∙◌, ◌≡◌, [], ◌∷◌, false, Err, ap, refl, arith}
use Rattle.std.proofs.lemmas.Result.{err_from_is_err_and}
use Rattle.svrl_read.specs.declared.value.SvrlReport.{SvrlReport}
use Rattle.svrl_summary.specs.Lines.{summary_lines}
use Rattle.sch_undo.specs.shown.Shown.TheVariants as shown
use Rattle.sch_stops.specs.declared.stop.Stop.TheVariants.{Memory}
use Rattle.sch_loading.specs.Reads.{file}
use Rattle.sch_loading.specs.Loading.{Reporting}
use Rattle.sch_loading.specs.Stages.{Is, Then, goes}
use Rattle.sch_loading.proofs.PartLemmas.{reads_as, reads_nothing, reads_stopped}
use Rattle.sch_commands.specs.Output.{summed_up}
use Rattle.sch_commands.proofs.CarryLemmas.{accepted, carried, refused_early, stopped_before}
use Rattle.sch_commands.proofs.EndLemmas.{text_behind}
use Rattle.sch_commands.proofs.StepLemmas.{none_counted}
use Rattle.sch_commands.proofs.summing.sum_up.Goals as goal

pub returns-in_err-name-clause-carried : goal.returns-in_err-name-clause-carried
returns-in_err-name-clause-carried g c = λ count.
    let error = err_from_is_err_and c.from_residual.result c.from_residual.ensures.1 in
    let report = c.args.name.now in
    stopped_before (file report ∷ []) (λ files. Then (Reporting files report) (λ said. Is (goes (summed_up said)))) (λ (said : SvrlReport). summed_up said)
    (λ written output. output ≡ written) (λ written text. text ≡ written.out) (λ written cost. cost ≡ 0) false _ _ _ count Memory c.from_residual.result (error.1 ∙ ap Err error.2)
    (reads_nothing _ (file report ∷ []) (λ files. Then (Reporting files report) (λ said. Is (goes (summed_up said)))) (λ (said : SvrlReport). summed_up said) (Err Memory) Memory refl refl)

pub returns-in_err-name-clause-accepted : goal.returns-in_err-name-clause-accepted
returns-in_err-name-clause-accepted g c =
    let error = err_from_is_err_and c.from_residual.result c.from_residual.ensures.1 in
    refused_early Memory c.from_residual.result (error.1 ∙ ap Err error.2) refl

pub returns-in_err-report-clause-carried : goal.returns-in_err-report-clause-carried
returns-in_err-report-clause-carried g c = λ count.
    let error = err_from_is_err_and c.from_residual-in_err-report.result c.from_residual-in_err-report.ensures.1 in
    let report = c.args.name.now in
    stopped_before (file report ∷ []) (λ files. Then (Reporting files report) (λ said. Is (goes (summed_up said)))) (λ (said : SvrlReport). summed_up said)
    (λ written output. output ≡ written) (λ written text. text ≡ written.out) (λ written cost. cost ≡ 0) false _ _ _ count c.in_err-report.field-0.0 c.from_residual-in_err-report.result (error.1 ∙ ap Err error.2)
    (reads_stopped _ _ (file report ∷ []) [] (λ files. Reporting files report) (λ files said. Is (goes (summed_up said))) (λ (said : SvrlReport). said) (λ (said : SvrlReport). summed_up said)
    c.in_err-report.field-0.0 (Err c.in_err-report.field-0.0) refl (rw (c.in_ok-name.ensures, c.as_str.ensures) at c.in_err-report.ensures))

pub returns-in_err-report-clause-accepted : goal.returns-in_err-report-clause-accepted
returns-in_err-report-clause-accepted g c =
    let error = err_from_is_err_and c.from_residual-in_err-report.result c.from_residual-in_err-report.ensures.1 in
    refused_early c.in_err-report.field-0.0 c.from_residual-in_err-report.result (error.1 ∙ ap Err error.2) c.in_err-report.ensures.no_usage

pub returns-clause-carried : goal.returns-clause-carried
returns-clause-carried g c = λ count.
    let report = c.args.name.now in
    let said = c.in_ok-report.report in
    carried (file report ∷ []) (λ files. Then (Reporting files report) (λ s. Is (goes (summed_up s)))) (λ (s : SvrlReport). summed_up s)
    (λ written output. output ≡ written) (λ written text. text ≡ written.out) (λ written cost. cost ≡ 0) false _ _ _ _ count count said c.write_summed_up-written.result
    (reads_as _ _ (file report ∷ []) (λ files. Reporting files report) summed_up (λ (s : SvrlReport). s) (λ (s : SvrlReport). summed_up s) said said refl
    (rw (c.in_ok-name.ensures, c.as_str.ensures) at c.in_ok-report.ensures))
    (text_behind (λ written output. output ≡ written) (λ written text. text ≡ written.out) (summed_up said) _ _ (summary_lines said) shown.Clean refl refl c.write_summed_up-written.result
    c.write_summed_up-written.ensures.wrote c.write_summed_up-written.ensures.shown (λ written cost. cost ≡ 0) false count count (none_counted count c.write_summed_up-written.result) (λ idle. refl) (omega arith))

pub returns-clause-accepted : goal.returns-clause-accepted
returns-clause-accepted g c = accepted c.write_summed_up-written.result c.write_summed_up-written.ensures.wrote.writing
