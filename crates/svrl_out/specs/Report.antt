-- The report: SVRL in lines of PYX (ISO/IEC 19757-3, annex on SVRL).
use Rattle.std.specs.Prelude.{◌≡◌, ℕ, ◌<◌, Bool, true, List, [], ◌∷◌, ◌++◌, length, codes, Option, None, Some, IsSomeAnd, All, Result, Ok, Err, MatchResult, if◌then◌else◌, slice_get}
use Rattle.std.specs.List.{flat_map, zip, enumerate_from}
use Rattle.std.specs.Option.{option_map_or}
use Rattle.sch_io.specs.Counts.{one_more}
use Rattle.sch_io.specs.SinkLog.{SinkLog}
use Rattle.sch_io.specs.Wrote.{Appends}
use Rattle.pyx_write.specs.Written.{chars_line}
use Rattle.doc_tree.specs.Table.{Table, is_live}
use Rattle.doc_tree.specs.Walks.{order}
use Rattle.sch_compiled.specs.declared.plan.Plan.{Plan}
use Rattle.sch_compiled.specs.declared.parts.PlanAssert.{PlanAssert}
use Rattle.sch_compiled.specs.declared.parts.PlanDiagnostic.{PlanDiagnostic}
use Rattle.sch_compiled.specs.declared.parts.PlanNs.{PlanNs}
use Rattle.sch_compiled.specs.declared.parts.PlanPattern.{PlanPattern}
use Rattle.sch_compiled.specs.declared.parts.PlanRule.{PlanRule}
use Rattle.sch_compiled.specs.declared.findings.Finding.{Finding}
use Rattle.sch_compiled.specs.declared.findings.Outcome.{Outcome}
use Rattle.sch_compiled.specs.declared.findings.Outcome.TheVariants.{NoRule, Fired, Fault}
use Rattle.sch_compiled.specs.Findings.{IsAtLiveNode, IsFindingOf, OutcomeTable, outcome_at}
use Rattle.sch_compiled.specs.Plan.{rules_of}
use Rattle.svrl_out.specs.declared.report.OutError.{OutError}
use Rattle.svrl_out.specs.declared.report.OutError.TheVariants.{Failed, Memory}
use Rattle.pyx_write.specs.Elements.{element}
use Rattle.doc_locations.specs.Locations.{location_of}

-- a prefix of the schema's expressions and its namespace
abbrev pub ns_lines : PlanNs → List ℕ
ns_lines ns = element (codes "svrl:ns-prefix-in-attribute-values") ((codes "prefix", Some ns.prefix) ∷ (codes "uri", Some ns.uri) ∷ []) []

-- a pattern is active
abbrev pub active_pattern : PlanPattern → List ℕ
active_pattern pattern = element (codes "svrl:active-pattern") ((codes "id", pattern.id) ∷ []) []

-- a rule fires
abbrev pub fired_rule : PlanRule → List ℕ
fired_rule rule = element (codes "svrl:fired-rule")
    ((codes "id", rule.id)
    ∷ (codes "context", Some rule.context_text)
    ∷ (codes "role", rule.role)
    ∷ (codes "flag", rule.flag) ∷ [])
    []

-- what is named by an id, and what it says of the node: in an element of one name, whose attribute of another holds the id
abbrev pub reference_lines : List ℕ → List ℕ → PlanDiagnostic × List ℕ → List ℕ
reference_lines name attribute (named, text) = element name ((attribute, Some named.id) ∷ []) (chars_line text)

-- a diagnostic, and what it says
abbrev pub diagnostic_lines : PlanDiagnostic × List ℕ → List ℕ
diagnostic_lines = reference_lines (codes "svrl:diagnostic-reference") (codes "diagnostic")

-- a property, and what it says
abbrev pub property_lines : PlanDiagnostic × List ℕ → List ℕ
property_lines = reference_lines (codes "svrl:property-reference") (codes "property")

-- the message of a finding
abbrev pub message_lines : List ℕ → List ℕ
message_lines message = element (codes "svrl:text") [] (chars_line message)

-- what a finding is named
abbrev pub finding_name : Bool → List ℕ
finding_name report = if report then codes "svrl:successful-report" else codes "svrl:failed-assert"

-- what a finding tells of its place and its assertion
abbrev pub finding_attributes : List ℕ → PlanAssert → List (List ℕ × Option (List ℕ))
finding_attributes location assertion =
    (codes "id", assertion.id)
    ∷ (codes "location", Some location)
    ∷ (codes "role", assertion.role)
    ∷ (codes "flag", assertion.flag)
    ∷ (codes "test", Some assertion.test_text) ∷ []

-- the diagnostics of an assertion and then its properties, each with its text in the finding, and the message
abbrev pub finding_texts : PlanAssert → Finding → List ℕ
finding_texts assertion finding =
    flat_map diagnostic_lines (zip assertion.diagnostics finding.diagnostics)
    ++ (flat_map property_lines (zip assertion.properties finding.properties) ++ message_lines finding.message)

-- an assert is false, or a report true, at a location
abbrev pub assertion_lines : List ℕ → Finding → PlanAssert → List ℕ
assertion_lines location finding assertion =
    element (finding_name assertion.report) (finding_attributes location assertion) (finding_texts assertion finding)

-- a finding of a rule with these assertions
abbrev pub finding_lines : List ℕ → List PlanAssert → Finding → List ℕ
finding_lines location assertions finding =
    option_map_or (assertion_lines location finding) (slice_get assertions finding.assertion) []

-- the same where the finding is
abbrev pub placed_lines : Table → List PlanAssert → Finding → List ℕ
placed_lines T assertions finding = finding_lines (location_of T finding.at) assertions finding

-- a rule that fires, and its findings in order
abbrev pub rule_lines : Table → List Finding → PlanRule → List ℕ
rule_lines T findings rule = fired_rule rule ++ flat_map (placed_lines T rule.assertions) findings

-- what an outcome under a pattern with these rules says
abbrev pub outcome_lines : Table → List PlanRule → Option Outcome → List ℕ
outcome_lines T rules None = []
outcome_lines T rules (Some NoRule) = []
outcome_lines T rules (Some (Fired rule findings)) = option_map_or (rule_lines T findings) (slice_get rules rule) []
outcome_lines T rules (Some (Fault kind)) = []

-- what a pattern with these rules says of a node
abbrev pub node_lines : Table → List PlanRule → (ℕ → Option Outcome) → ℕ → List ℕ
node_lines T rules outcome n = outcome_lines T rules (outcome n)

-- an active pattern, and what it says of each node in document order
abbrev pub pattern_lines : Table → (ℕ → ℕ → Option Outcome) → ℕ × PlanPattern → List ℕ
pattern_lines T outcome (p, pattern) = active_pattern pattern ++ flat_map (node_lines T pattern.rules (outcome p)) (order T)

-- what the report tells of its schema and the chosen phase
abbrev pub output_attributes : Plan → List (List ℕ × Option (List ℕ))
output_attributes plan =
    (codes "xmlns:svrl", Some (codes "http://purl.oclc.org/dsdl/svrl"))
    ∷ (codes "title", plan.title)
    ∷ (codes "phase", plan.phase)
    ∷ (codes "schemaVersion", plan.schema_version) ∷ []

-- the report of a plan and a tree, by the outcome of each node under each pattern, counted from 0
abbrev pub report : Plan → Table → (ℕ → ℕ → Option Outcome) → List ℕ
report plan T outcome = element (codes "svrl:schematron-output") (output_attributes plan)
    (flat_map ns_lines plan.namespaces ++ flat_map (pattern_lines T outcome) (enumerate_from 0 plan.patterns))

-- an outcome is there and no fault, and it names a rule and its findings, which are at live nodes
abbrev pub IsOutcomeOf : Table → List PlanRule → Option Outcome → Type 0
IsOutcomeOf T rules None = ⊥
IsOutcomeOf T rules (Some NoRule) = Unit {0}
IsOutcomeOf T rules (Some (Fired rule findings)) =
    IsSomeAnd (slice_get rules rule) (λ fired. All (IsFindingOf fired.assertions) findings) × All (IsAtLiveNode T) findings
IsOutcomeOf T rules (Some (Fault kind)) = ⊥

-- what was found is of the plan's patterns, and each live node has such an outcome under each of them
pub record IsReportable (plan : Plan) (T : Table) (found : OutcomeTable) : Type 0 where
  pub patterns : found.patterns ≡ length plan.patterns
  pub outcomes : (p n : ℕ) → p < length plan.patterns → is_live T n ≡ true → IsOutcomeOf T (rules_of plan p) (outcome_at found p n)

-- a report adds one to the sink's faults where a write failed, and none else
abbrev pub faults_of_report : Result (Unit {0}) OutError → ℕ → ℕ
faults_of_report (Ok done) before = before
faults_of_report (Err Failed) before = one_more before
faults_of_report (Err Memory) before = before

-- the text was appended whole, or a front of it after an error; a fault is counted exactly where a write failed
pub record Reported (old new : SinkLog) (text : List ℕ) (result : Result (Unit {0}) OutError) : Type 0 where
  pub counted : new.faults ≡ faults_of_report result old.faults
  pub grown : MatchResult result (λ _. Appends old.written new.written text)
      (λ _. (done left : List ℕ) × (text ≡ done ++ left) × Appends old.written new.written done)
