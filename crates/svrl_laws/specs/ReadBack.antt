-- Reports as values: what was written is read back, and so is what a plan says of a tree.
use Rattle.std.specs.Prelude.{◌≡◌, ℕ, Option, None, Some}
use Rattle.doc_tree.specs.Table.{Table}
use Rattle.name_scopes.specs.DocFaults.{doc_fault}
use Rattle.name_scopes.specs.ScopedTree.{Scoped}
use Rattle.pyx_core.specs.declared.mode.Mode.TheVariants.{Document}
use Rattle.pyx_core.specs.Nesting.{bare}
use Rattle.pyx_core.specs.Reading.{events_of}
use Rattle.sch_compiled.specs.declared.findings.Outcome.{Outcome}
use Rattle.sch_compiled.specs.declared.plan.Plan.{Plan}
use Rattle.sch_units.specs.Validity.{first_fault as plan_fault, pair_outcome}
use Rattle.svrl_out.specs.Report.{report}
use Rattle.svrl_read.specs.declared.value.SvrlReport.{SvrlReport}
use Rattle.svrl_read.specs.FirstFault.{first_fault}
use Rattle.svrl_read.specs.Lines.{report_lines}
use Rattle.svrl_read.specs.Value.{report_of}
use Rattle.svrl_laws.specs.PlanReport.{report_said}

-- a tree says the report, and has no fault as one
pub record Says (T : Table) (report : SvrlReport) : Type 0 where
  pub no_fault : first_fault T ≡ None
  pub value : report_of T ≡ report

-- where the lines of a report are a document, each tree of its events says the report
abbrev pub ReportsAreReadBack : Type 0
ReportsAreReadBack = (report : SvrlReport) (T : Table) → doc_fault (report_lines report) ≡ None →
    Scoped (bare (events_of Document (report_lines report))) T → Says T report

-- where the report of outcomes is a document, each tree of its events says the same as the plan by these outcomes: its title,
-- phase, version and prefixes, its active patterns, and for each of them the rules that fired and what was found, each as often,
-- in document order
abbrev pub ReportsSayWhatWasFound : Type 0
ReportsSayWhatWasFound = (plan : Plan) (T U : Table) (outcome : ℕ → ℕ → Option Outcome) → doc_fault (report plan T outcome) ≡ None →
    Scoped (bare (events_of Document (report plan T outcome))) U → Says U (report_said plan T outcome)

-- the outcome of each node under each active pattern, under the lets in force of the tree
abbrev pub outcomes_of : Plan → Table → ℕ → ℕ → Option Outcome
outcomes_of plan T p n = Some (pair_outcome plan T p n)

-- so it is of a tree that has no fault under the plan, by what the plan finds in it
abbrev pub ReportsSayWhatPlansFind : Type 0
ReportsSayWhatPlansFind = (plan : Plan) (T U : Table) → plan_fault plan T ≡ None → doc_fault (report plan T (outcomes_of plan T)) ≡ None →
    Scoped (bare (events_of Document (report plan T (outcomes_of plan T)))) U → Says U (report_said plan T (outcomes_of plan T))
