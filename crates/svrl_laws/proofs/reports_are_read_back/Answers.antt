-- The lines give the events of the report, and their tree says it.
use Rattle.std.proofs.Common.{◌≡◌, ℕ, List, Option, None, Some, refl, ap, ◌∙◌, subst}
use Rattle.std.specs.Option.{option_or}
use Rattle.std.specs.Prelude.{option_map}
use Rattle.name_scopes.specs.declared.fault.DocFault.{DocFault}
use Rattle.name_scopes.specs.DocFaults.{line_fault}
use Rattle.name_scopes.specs.ScopedTree.{Scoped}
use Rattle.pyx_core.specs.declared.event.Event.{Event}
use Rattle.pyx_core.specs.declared.fault.PyxFault.{PyxFault}
use Rattle.pyx_core.specs.declared.mode.Mode.TheVariants.{Document}
use Rattle.pyx_core.specs.Nesting.{bare}
use Rattle.pyx_core.specs.Reading.{events_of, fault_of}
use Rattle.pyx_core.specs.Written.{Gives, text_of}
use Rattle.svrl_read.specs.Lines.{report_lines}
use Rattle.svrl_laws.specs.ReportEvents.{report_events}
use Rattle.svrl_laws.proofs.Made.{report_made}
use Rattle.svrl_laws.proofs.Nesting.{report_nests}
use Rattle.svrl_laws.proofs.Reading.{whole}
use Rattle.svrl_laws.proofs.Texts.{lines_are}
use Rattle.svrl_laws.proofs.reports_are_read_back.Goals as goal

no_line_fault : (first : Option DocFault) (fault : Option PyxFault) → option_or first (option_map line_fault fault) ≡ None → fault ≡ None
no_line_fault None None h = refl
no_line_fault None (Some fault) h = absurd (cc)
no_line_fault (Some first) fault h = absurd (cc)

pub returns : goal.returns
returns c = λ report T good scoped.
    let lines : fault_of Document (report_lines report) ≡ None = no_line_fault _ (fault_of Document (report_lines report)) good in
    let nests = report_nests c.qnames_split.ensures report (report_made report lines) in
    let gives : Gives Document (text_of (report_events report)) (report_events report) =
    c.written_is_read_back.ensures.nested Document (report_events report) nests.0 nests.1 in
    let events : bare (events_of Document (report_lines report)) ≡ report_events report =
    ap (λ (bytes : List ℕ). bare (events_of Document bytes)) (lines_are report) ∙ gives.events_are in
    let its : Scoped (report_events report) T = subst (λ (e : List Event). Scoped e T) events scoped in
    let laws = c.well_formed_is_enough.ensures T its.well_formed in
    whole T its.well_formed laws.0 laws.1 laws.2 laws.3 its.in_scope report its
