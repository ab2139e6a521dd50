-- The state of a document by a plan: the text of it, and what that text shows.
use Rattle.std.specs.Prelude.{ℕ, List, Option, None, Some, if◌then◌else◌}
use Rattle.doc_tree.specs.Table.{Table}
use Rattle.sch_compiled.specs.declared.plan.Plan.{Plan}
use Rattle.sch_compiled.specs.declared.state_fault.StateFault.{StateFault}
use Rattle.sch_units.specs.Validity.{finds, first_fault, pair_outcome}
use Rattle.svrl_out.specs.FaultLine.{fault_line}
use Rattle.svrl_out.specs.Report.{report}
use Rattle.svrl_out.specs.declared.shown.Shown.{Shown}
use Rattle.svrl_out.specs.declared.shown.Shown.TheVariants.{Clean, Findings, Fault}

-- the report of a tree by a plan, from the outcome of each node under each active pattern
abbrev pub report_of : Plan → Table → List ℕ
report_of plan T = report plan T (λ p n. Some (pair_outcome plan T p n))

-- the line of the fault, where there is one, and else the report
abbrev pub text_by : Plan → Table → Option StateFault → List ℕ
text_by plan T (Some fault) = fault_line plan T fault
text_by plan T None = report_of plan T

-- the text of a state: the line of the first fault, where there is one, and else the report
abbrev pub state_text : Plan → Table → List ℕ
state_text plan T = text_by plan T (first_fault plan T)

-- the same for what is shown: a fault, or whether the report has a finding
abbrev pub shown_by : Plan → Table → Option StateFault → Shown
shown_by plan T (Some fault) = Fault
shown_by plan T None = if finds plan T then Findings else Clean

-- what the text of a state shows
abbrev pub shows : Plan → Table → Shown
shows plan T = shown_by plan T (first_fault plan T)
