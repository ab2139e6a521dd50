-- What is counted of a document by a plan (ISO/IEC 19757-3, annex on SVRL): the rules that fire, the assertions that fail and the
-- reports that succeed, over all its nodes under all active patterns; and whether its state is a fault.
use Rattle.std.specs.Prelude.{ℕ, Bool, true, false, not, List, is_some, sum_by, count_by, slice_get, if◌then◌else◌}
use Rattle.std.specs.Option.{option_map_or}
use Rattle.doc_tree.specs.Table.{Table}
use Rattle.doc_tree.specs.Walks.{order}
use Rattle.sch_compiled.specs.declared.findings.Finding.{Finding}
use Rattle.sch_compiled.specs.declared.findings.Outcome.{Outcome}
use Rattle.sch_compiled.specs.declared.findings.Outcome.TheVariants.{NoRule, Fired, Fault}
use Rattle.sch_compiled.specs.declared.parts.PlanAssert.{PlanAssert}
use Rattle.sch_compiled.specs.declared.parts.PlanRule.{PlanRule}
use Rattle.sch_compiled.specs.declared.plan.Plan.{Plan}
use Rattle.sch_compiled.specs.Plan.{rules_of}
use Rattle.sch_units.specs.Validity.{first_fault, pair_outcome, pattern_numbers}
use Rattle.edit_session.specs.declared.counting.Counts.{Counts}

-- whether an assertion is a report, or whether it is an assert
abbrev pub is_kind : Bool → PlanAssert → Bool
is_kind report assertion = if report then assertion.report else not assertion.report

-- whether a finding is of such an assertion, among those of its rule
abbrev pub is_of_kind : Bool → List PlanAssert → Finding → Bool
is_of_kind report assertions finding = option_map_or (is_kind report) (slice_get assertions finding.assertion) false

-- how many findings of a rule are of such assertions
abbrev pub of_kind : Bool → List Finding → PlanRule → ℕ
of_kind report findings rule = count_by (is_of_kind report rule.assertions) findings

-- one where a rule fires
abbrev pub fired_by : Outcome → ℕ
fired_by NoRule = 0
fired_by (Fired rule findings) = 1
fired_by (Fault kind) = 0

-- the findings of asserts, or of reports, under a pattern with these rules
abbrev pub found_by : Bool → List PlanRule → Outcome → ℕ
found_by report rules NoRule = 0
found_by report rules (Fired rule findings) = option_map_or (of_kind report findings) (slice_get rules rule) 0
found_by report rules (Fault kind) = 0

-- the sum of what the outcome of each node under each active pattern adds
abbrev pub over_pairs : Plan → Table → (List PlanRule → Outcome → ℕ) → ℕ
over_pairs plan T adds = sum_by (λ p. sum_by (λ n. adds (rules_of plan p) (pair_outcome plan T p n)) (order T)) (pattern_numbers plan)

abbrev pub fired_rules : Plan → Table → ℕ
fired_rules plan T = over_pairs plan T (λ rules. fired_by)

abbrev pub failed_assertions : Plan → Table → ℕ
failed_assertions plan T = over_pairs plan T (found_by false)

abbrev pub successful_reports : Plan → Table → ℕ
successful_reports plan T = over_pairs plan T (found_by true)

-- what is counted
abbrev pub counts_of : Plan → Table → Counts
counts_of plan T = record {
  fired = fired_rules plan T;
  failed = failed_assertions plan T;
  reports = successful_reports plan T;
  faulted = is_some (first_fault plan T);
}
