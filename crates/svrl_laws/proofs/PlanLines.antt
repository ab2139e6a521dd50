-- The report of a plan and a tree is the lines of what the plan says of the tree.
use Rattle.std.proofs.Common.{◌≡◌, ℕ, Bool, true, false, not, List, [], ◌∷◌, ◌++◌, map, Option, None, Some, codes, slice_get, refl, ap, ◌∙◌, append-nil, append_assoc}
use Rattle.std.specs.List.{flat_map, zip, enumerate_from}
use Rattle.std.specs.Option.{option_map_or}
use Rattle.std.proofs.lemmas.Grind.{flat_map-append}
use Rattle.std.proofs.lemmas.List.Folds.{flat_map-map}
use Rattle.doc_locations.specs.Locations.{location_of}
use Rattle.doc_tree.specs.Table.{Table}
use Rattle.doc_tree.specs.Walks.{order}
use Rattle.pyx_write.specs.Elements.{element}
use Rattle.sch_compiled.specs.declared.findings.Finding.{Finding}
use Rattle.sch_compiled.specs.declared.findings.Outcome.{Outcome}
use Rattle.sch_compiled.specs.declared.findings.Outcome.TheVariants.{NoRule, Fired, Fault}
use Rattle.sch_compiled.specs.declared.parts.PlanAssert.{PlanAssert}
use Rattle.sch_compiled.specs.declared.parts.PlanDiagnostic.{PlanDiagnostic}
use Rattle.sch_compiled.specs.declared.parts.PlanNs.{PlanNs}
use Rattle.sch_compiled.specs.declared.parts.PlanPattern.{PlanPattern}
use Rattle.sch_compiled.specs.declared.parts.PlanRule.{PlanRule}
use Rattle.sch_compiled.specs.declared.plan.Plan.{Plan}
use Rattle.svrl_out.specs.Report as out
use Rattle.svrl_read.specs.Lines as read
use Rattle.svrl_laws.specs.PlanReport.{assertion_said, finding_said, outcome_said, pattern_said, prefix_said, reference_said, report_said, rule_said}
use Rattle.svrl_laws.proofs.Texts.{of_flat}

each : {A : Type 0} (f g : A → List ℕ) → ((x : A) → f x ≡ g x) → (xs : List A) → flat_map f xs ≡ flat_map g xs
each f g same [] = refl
each f g same (x ∷ xs) = ap (λ (l : List ℕ). l ++ flat_map f xs) (same x) ∙ ap (λ (l : List ℕ). g x ++ l) (each f g same xs)

-- parts of a list, each by what it says
mapped : {A B : Type 0} (g : B → List ℕ) (h : A → B) (f : A → List ℕ) → ((x : A) → g (h x) ≡ f x) → (xs : List A) →
    flat_map g (map h xs) ≡ flat_map f xs
mapped g h f same xs = flat_map-map g h xs ∙ each (λ x. g (h x)) f same xs

flattened : {A B : Type 0} (g : B → List ℕ) (h : A → List B) (f : A → List ℕ) → ((x : A) → flat_map g (h x) ≡ f x) → (xs : List A) →
    flat_map g (flat_map h xs) ≡ flat_map f xs
flattened g h f same xs = of_flat g h xs ∙ each (λ x. flat_map g (h x)) f same xs

-- one part, where there is one
optional : {A B : Type 0} (g : B → List ℕ) (h : A → B) (f : A → List ℕ) → ((x : A) → g (h x) ≡ f x) → (found : Option A) →
    flat_map g (option_map_or (λ x. h x ∷ []) found []) ≡ option_map_or f found []
optional g h f same None = refl
optional g h f same (Some x) = append-nil (g (h x)) ∙ same x

finding_name_is : (report : Bool) → read.finding_name (not report) ≡ out.finding_name report
finding_name_is true = refl
finding_name_is false = refl

diagnostic_is : (named : PlanDiagnostic × List ℕ) → read.ref_lines (reference_said false named) ≡ out.diagnostic_lines named
diagnostic_is (diagnostic, text) = refl

property_is : (named : PlanDiagnostic × List ℕ) → read.ref_lines (reference_said true named) ≡ out.property_lines named
property_is (property, text) = refl

-- what is said of diagnostics, then of properties, then in the message
texts_are : (diagnostics properties : List (PlanDiagnostic × List ℕ)) (text : List ℕ) →
    flat_map read.ref_lines (map (reference_said false) diagnostics ++ map (reference_said true) properties) ++ text
    ≡ flat_map out.diagnostic_lines diagnostics ++ (flat_map out.property_lines properties ++ text)
texts_are diagnostics properties text =
    ap (λ (l : List ℕ). l ++ text) (flat_map-append read.ref_lines (map (reference_said false) diagnostics) (map (reference_said true) properties))
    ∙ append_assoc (flat_map read.ref_lines (map (reference_said false) diagnostics)) (flat_map read.ref_lines (map (reference_said true) properties)) text
    ∙ ap (λ (l : List ℕ). l ++ (flat_map read.ref_lines (map (reference_said true) properties) ++ text))
    (mapped read.ref_lines (reference_said false) out.diagnostic_lines diagnostic_is diagnostics)
    ∙ ap (λ (l : List ℕ). flat_map out.diagnostic_lines diagnostics ++ (l ++ text))
    (mapped read.ref_lines (reference_said true) out.property_lines property_is properties)

assertion_is : (location : List ℕ) (finding : Finding) (assertion : PlanAssert) →
    read.finding_lines (assertion_said location finding assertion) ≡ out.assertion_lines location finding assertion
assertion_is location finding assertion =
    let diagnostics = zip assertion.diagnostics finding.diagnostics in
    let properties = zip assertion.properties finding.properties in
    ap (λ (name : List ℕ). element name (out.finding_attributes location assertion)
    (flat_map read.ref_lines (map (reference_said false) diagnostics ++ map (reference_said true) properties) ++ out.message_lines finding.message))
    (finding_name_is assertion.report)
    ∙ ap (element (out.finding_name assertion.report) (out.finding_attributes location assertion))
    (texts_are diagnostics properties (out.message_lines finding.message))

finding_is : (T : Table) (assertions : List PlanAssert) (finding : Finding) →
    flat_map read.finding_lines (finding_said T assertions finding) ≡ out.placed_lines T assertions finding
finding_is T assertions finding =
    let location = location_of T finding.at in
    optional read.finding_lines (assertion_said location finding) (out.assertion_lines location finding) (assertion_is location finding)
    (slice_get assertions finding.assertion)

rule_is : (T : Table) (findings : List Finding) (rule : PlanRule) → read.fired_lines (rule_said T findings rule) ≡ out.rule_lines T findings rule
rule_is T findings rule =
    ap (λ (l : List ℕ). out.fired_rule rule ++ l)
    (flattened read.finding_lines (finding_said T rule.assertions) (out.placed_lines T rule.assertions) (finding_is T rule.assertions) findings)

outcome_is : (T : Table) (rules : List PlanRule) (outcome : Option Outcome) →
    flat_map read.fired_lines (outcome_said T rules outcome) ≡ out.outcome_lines T rules outcome
outcome_is T rules None = refl
outcome_is T rules (Some NoRule) = refl
outcome_is T rules (Some (Fired rule findings)) =
    optional read.fired_lines (rule_said T findings) (out.rule_lines T findings) (rule_is T findings) (slice_get rules rule)
outcome_is T rules (Some (Fault kind)) = refl

pattern_is : (T : Table) (outcome : ℕ → ℕ → Option Outcome) (at : ℕ × PlanPattern) →
    read.pattern_lines (pattern_said T outcome at) ≡ out.pattern_lines T outcome at
pattern_is T outcome (p, pattern) =
    ap (λ (l : List ℕ). out.active_pattern pattern ++ l)
    (flattened read.fired_lines (λ n. outcome_said T pattern.rules (outcome p n)) (out.node_lines T pattern.rules (outcome p))
    (λ n. outcome_is T pattern.rules (outcome p n)) (order T))

prefix_is : (ns : PlanNs) → read.prefix_lines (prefix_said ns) ≡ out.ns_lines ns
prefix_is ns = refl

pub report_is : (plan : Plan) (T : Table) (outcome : ℕ → ℕ → Option Outcome) →
    read.report_lines (report_said plan T outcome) ≡ out.report plan T outcome
report_is plan T outcome =
    ap (λ (prefixes : List ℕ). element (codes "svrl:schematron-output") (out.output_attributes plan)
    (prefixes ++ flat_map read.pattern_lines (map (pattern_said T outcome) (enumerate_from 0 plan.patterns))))
    (mapped read.prefix_lines prefix_said out.ns_lines prefix_is plan.namespaces)
    ∙ ap (λ (patterns : List ℕ). element (codes "svrl:schematron-output") (out.output_attributes plan) (flat_map out.ns_lines plan.namespaces ++ patterns))
    (mapped read.pattern_lines (pattern_said T outcome) (out.pattern_lines T outcome) (pattern_is T outcome) (enumerate_from 0 plan.patterns))
