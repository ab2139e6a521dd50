-- A document that is read as a report, or refused.
use Rattle.std.proofs.Common.{◌∙◌, ◌≡◌, List, ℕ, [], Option, None, Some, Result, Ok, Err, refl, ap, sym, subst}
use Rattle.doc_tree.specs.Table.{Table}
use Rattle.doc_locations.specs.Locations.{location_of}
use Rattle.svrl_read.specs.FirstFault.{Refuses, first_fault}
use Rattle.svrl_read.specs.Value.{report_of}
use Rattle.svrl_read.specs.declared.fault.SvrlError.{SvrlError}
use Rattle.svrl_read.specs.declared.fault.SvrlError.TheVariants as error
use Rattle.svrl_read.specs.declared.fault.SvrlFault.{SvrlFault}
use Rattle.svrl_read.specs.declared.value.SvrlReport.{SvrlReport}
use Rattle.sch_words.specs.declared.status.Status.TheVariants as status
use Rattle.sch_stops.specs.Output.{Output, stopped}
use Rattle.sch_stops.specs.Refusals.{document_refused_line}
use Rattle.sch_stops.specs.declared.refusal.DocumentRefusal.TheVariants.{Report}
use Rattle.sch_stops.specs.declared.stop.Stop.{Stop}
use Rattle.sch_stops.specs.declared.stop.Stop.TheVariants.{DocumentRefused}
use Rattle.sch_loading.specs.Loading.{Saying, refused_report}
use Rattle.sch_loading.specs.Reads.{EndsAs}
use Rattle.sch_loading.specs.Stages.{goes, halt_at, halts, unread}
use Rattle.sch_loading.specs.inner.Refusing.{IsReportRefusal}
use Rattle.sch_loading.proofs.PartLemmas.{by_cause}

-- the tree says a report
pub goes_to_report : (T : Table) (report : SvrlReport) → first_fault T ≡ None → report ≡ report_of T → EndsAs (Saying T []) (λ (r : SvrlReport). r) (Ok report)
goes_to_report T report none is =
    (refl, ap (λ (r : SvrlReport). goes r) is ∙ ap (λ (f : Option SvrlFault). halt_at f (refused_report T) (report_of T)) (sym none))

-- or has a first fault
pub halts_at_fault : (T : Table) (e : SvrlError) → Refuses (first_fault T) e → (stop : Stop) → IsReportRefusal T e stop → EndsAs (Saying T []) (λ (r : SvrlReport). r) (Err stop)
halts_at_fault T (error.Fault fault) first stop is =
    by_cause (λ output. output ≡ refused_report T fault) (λ output. Saying T [] (halts output)) (λ _. ⊥) (λ name. Saying T [] (unread name)) ⊥ ⊥ (Unit {0}) (Unit {0})
    (λ stop same. subst (λ (output : Output). Saying T [] (halts output)) (sym same) (refl, ap (λ (f : Option SvrlFault). halt_at f (refused_report T) (report_of T)) (sym first)))
    (λ name no. absurd no) (λ w. w) (λ m. m) stop is
halts_at_fault T error.Memory first stop is =
    by_cause (λ _. ⊥) (λ output. Saying T [] (halts output)) (λ _. ⊥) (λ name. Saying T [] (unread name)) ⊥ ⊥ (Unit {0}) (Unit {0})
    (λ stop no. absurd no) (λ name no. absurd no) (λ w. w) (λ m. m) stop is

-- which is told with its location
pub fault_told : (T : Table) (e : SvrlError) (fault : SvrlFault) (location : List ℕ) → e ≡ error.Fault fault → location ≡ location_of T fault.node →
    IsReportRefusal T e (DocumentRefused (Report fault location))
fault_told T e fault location is at = subst (λ (x : SvrlError). IsReportRefusal T x (DocumentRefused (Report fault location))) (sym is)
    (ap (λ (l : List ℕ). stopped status.DocumentRefused (document_refused_line (Report fault l))) at)
