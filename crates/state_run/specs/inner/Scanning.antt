-- What units came to, by their outcomes that are kept.
use Rattle.std.specs.Prelude.{ℕ, Bool, List, Option, None, Some}
use Rattle.std.specs.List.{list_any, range_with_len}
use Rattle.sch_compiled.specs.declared.findings.Outcome.{Outcome}
use Rattle.sch_compiled.specs.declared.findings.Outcome.TheVariants.{NoRule}
use Rattle.sch_compiled.specs.declared.state_fault.StateFault.{StateFault}
use Rattle.sch_compiled.specs.Findings.{OutcomeTable, outcome_at}
use Rattle.sch_units.specs.Validity.{first_with, has_finding, pair_fault}
use Rattle.state_run.specs.declared.scanning.Evaluated.{Evaluated}
use Rattle.state_run.specs.declared.scanning.Evaluated.TheVariants.{Whole, Faulted}

-- no fault and whether there is a finding, or the fault
abbrev pub came_to : Option StateFault → Bool → Evaluated
came_to None found = Whole found
came_to (Some fault) found = Faulted fault

-- an outcome that is kept; where none is, no rule fires
abbrev pub kept_outcome : Option Outcome → Outcome
kept_outcome None = NoRule
kept_outcome (Some outcome) = outcome

-- the fault of a node under a pattern
abbrev pub fault_of_node : OutcomeTable → ℕ → ℕ → Option StateFault
fault_of_node found p n = pair_fault p n (kept_outcome (outcome_at found p n))

-- whether it has a finding
abbrev pub node_finds : OutcomeTable → ℕ → ℕ → Bool
node_finds found p n = has_finding (kept_outcome (outcome_at found p n))

-- the first fault of some nodes under a pattern
abbrev pub fault_of_nodes : OutcomeTable → List ℕ → ℕ → Option StateFault
fault_of_nodes found nodes p = first_with (fault_of_node found p) nodes

-- whether one of them has a finding
abbrev pub nodes_find : OutcomeTable → List ℕ → ℕ → Bool
nodes_find found nodes p = list_any (node_finds found p) nodes

-- what some nodes came to under a pattern
abbrev pub nodes_came_to : OutcomeTable → List ℕ → ℕ → Evaluated
nodes_came_to found nodes p = came_to (fault_of_nodes found nodes p) (nodes_find found nodes p)

-- what they came to under so many patterns
abbrev pub patterns_came_to : OutcomeTable → List ℕ → ℕ → Evaluated
patterns_came_to found nodes count =
    came_to (first_with (fault_of_nodes found nodes) (range_with_len 0 count)) (list_any (nodes_find found nodes) (range_with_len 0 count))
