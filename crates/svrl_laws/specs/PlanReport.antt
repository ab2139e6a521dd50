-- What a plan says of a tree, as the value of a report: by the outcome of each node under each active pattern.
use Rattle.std.specs.Prelude.{ℕ, Bool, true, false, not, List, [], ◌∷◌, ◌++◌, map, Option, None, Some, slice_get}
use Rattle.std.specs.List.{flat_map, zip, enumerate_from}
use Rattle.std.specs.Option.{option_map_or}
use Rattle.doc_locations.specs.Locations.{location_of}
use Rattle.doc_tree.specs.Table.{Table}
use Rattle.doc_tree.specs.Walks.{order}
use Rattle.sch_compiled.specs.declared.findings.Finding.{Finding}
use Rattle.sch_compiled.specs.declared.findings.Outcome.{Outcome}
use Rattle.sch_compiled.specs.declared.findings.Outcome.TheVariants.{NoRule, Fired, Fault}
use Rattle.sch_compiled.specs.declared.parts.PlanAssert.{PlanAssert}
use Rattle.sch_compiled.specs.declared.parts.PlanDiagnostic.{PlanDiagnostic}
use Rattle.sch_compiled.specs.declared.parts.PlanNs.{PlanNs}
use Rattle.sch_compiled.specs.declared.parts.PlanPattern.{PlanPattern}
use Rattle.sch_compiled.specs.declared.parts.PlanRule.{PlanRule}
use Rattle.sch_compiled.specs.declared.plan.Plan.{Plan}
use Rattle.svrl_read.specs.declared.value.Fired.{Fired as FiredRule}
use Rattle.svrl_read.specs.declared.value.Prefix.{Prefix}
use Rattle.svrl_read.specs.declared.value.Ref.{Ref}
use Rattle.svrl_read.specs.declared.value.SvrlFinding.{SvrlFinding}
use Rattle.svrl_read.specs.declared.value.SvrlPattern.{SvrlPattern}
use Rattle.svrl_read.specs.declared.value.SvrlReport.{SvrlReport}

-- a prefix of the schema's expressions and its namespace
abbrev pub prefix_said : PlanNs → Prefix
prefix_said ns = record { prefix = ns.prefix; uri = ns.uri }

-- a diagnostic or a property, and what it says
abbrev pub reference_said : Bool → PlanDiagnostic × List ℕ → Ref
reference_said property (named, text) = record { property = property; name = named.id; body = text }

-- an assert is false, or a report true, at a location
abbrev pub assertion_said : List ℕ → Finding → PlanAssert → SvrlFinding
assertion_said location finding assertion = record {
  assertion = not assertion.report;
  id = assertion.id;
  location = location;
  role = assertion.role;
  flag = assertion.flag;
  test = assertion.test_text;
  refs =
      map (reference_said false) (zip assertion.diagnostics finding.diagnostics) ++ map (reference_said true) (zip assertion.properties finding.properties);
  message = finding.message;
}

-- a finding of a rule with these assertions, where it is
abbrev pub finding_said : Table → List PlanAssert → Finding → List SvrlFinding
finding_said T assertions finding =
    option_map_or (λ assertion. assertion_said (location_of T finding.at) finding assertion ∷ []) (slice_get assertions finding.assertion) []

-- a rule that fires, and its findings in order
abbrev pub rule_said : Table → List Finding → PlanRule → FiredRule
rule_said T findings rule = record {
  id = rule.id;
  context = rule.context_text;
  role = rule.role;
  flag = rule.flag;
  findings = flat_map (finding_said T rule.assertions) findings;
}

-- the rule that fires by an outcome under a pattern with these rules
abbrev pub outcome_said : Table → List PlanRule → Option Outcome → List FiredRule
outcome_said T rules None = []
outcome_said T rules (Some NoRule) = []
outcome_said T rules (Some (Fired rule findings)) = option_map_or (λ fired. rule_said T findings fired ∷ []) (slice_get rules rule) []
outcome_said T rules (Some (Fault kind)) = []

-- an active pattern, and the rule that fires at each node in document order
abbrev pub pattern_said : Table → (ℕ → ℕ → Option Outcome) → ℕ × PlanPattern → SvrlPattern
pattern_said T outcome (p, pattern) = record {
  id = pattern.id;
  fired = flat_map (λ n. outcome_said T pattern.rules (outcome p n)) (order T);
}

-- the report of a plan and a tree, by the outcome of each node under each pattern, counted from 0
abbrev pub report_said : Plan → Table → (ℕ → ℕ → Option Outcome) → SvrlReport
report_said plan T outcome = record {
  title = plan.title;
  phase = plan.phase;
  schema_version = plan.schema_version;
  prefixes = map prefix_said plan.namespaces;
  patterns = map (pattern_said T outcome) (enumerate_from 0 plan.patterns);
}
