-- What the counts add up, by the outcomes that are kept.
use Rattle.std.specs.Prelude.{◌≡◌, ℕ, ◌+◌, Bool, true, false, List, Option, None, Some, sum_by}
use Rattle.sch_compiled.specs.declared.findings.Outcome.{Outcome}
use Rattle.sch_compiled.specs.declared.parts.PlanRule.{PlanRule}
use Rattle.sch_compiled.specs.declared.plan.Plan.{Plan}
use Rattle.sch_compiled.specs.declared.state_fault.StateFault.{StateFault}
use Rattle.sch_compiled.specs.Findings.{OutcomeTable, outcome_at}
use Rattle.sch_compiled.specs.Plan.{rules_of}
use Rattle.sch_units.specs.Validity.{pattern_numbers}
use Rattle.kept_units.specs.scanning.Evaluated.{Evaluated}
use Rattle.kept_units.specs.scanning.Evaluated.TheVariants.{Whole, Faulted}
use Rattle.edit_session.specs.declared.counting.Counts.{Counts}
use Rattle.edit_session.specs.declared.counting.Tally.{Tally}
use Rattle.edit_session.specs.Counts.{fired_by, found_by}

-- what is counted
pub data Counted : Type 0 where
  FiredRules : Counted
  FailedAssertions : Counted
  SuccessfulReports : Counted

-- the part of a tally that counts it
abbrev pub part : Counted → Tally → ℕ
part FiredRules tally = tally.fired
part FailedAssertions tally = tally.failed
part SuccessfulReports tally = tally.reports

-- each part of a tally grew by so much
abbrev pub Grows : Tally → Tally → (Counted → ℕ) → Type 0
Grows old new more = (what : Counted) → part what new ≡ part what old + more what

-- the counts of a document of which all was counted
abbrev pub counts_by : Tally → Bool → Counts
counts_by tally faulted = record { fired = tally.fired; failed = tally.failed; reports = tally.reports; faulted = faulted }

-- what an outcome adds to a count
abbrev pub adds : Counted → List PlanRule → Outcome → ℕ
adds FiredRules rules outcome = fired_by outcome
adds FailedAssertions rules outcome = found_by false rules outcome
adds SuccessfulReports rules outcome = found_by true rules outcome

-- what one that is kept adds; where none is, nothing
abbrev pub adds_kept : Counted → List PlanRule → Option Outcome → ℕ
adds_kept what rules None = 0
adds_kept what rules (Some outcome) = adds what rules outcome

-- what a node adds under a pattern with these rules
abbrev pub node_adds : Counted → OutcomeTable → ℕ → List PlanRule → ℕ → ℕ
node_adds what found p rules n = adds_kept what rules (outcome_at found p n)

-- what some nodes add under a pattern
abbrev pub nodes_add : Counted → Plan → OutcomeTable → List ℕ → ℕ → ℕ
nodes_add what plan found nodes p = sum_by (node_adds what found p (rules_of plan p)) nodes

-- and under all patterns
abbrev pub pairs_add : Counted → Plan → OutcomeTable → List ℕ → ℕ
pairs_add what plan found nodes = sum_by (nodes_add what plan found nodes) (pattern_numbers plan)

-- the first fault, by what the units came to
abbrev pub fault_of : Evaluated → Option StateFault
fault_of (Whole found) = None
fault_of (Faulted fault) = Some fault
