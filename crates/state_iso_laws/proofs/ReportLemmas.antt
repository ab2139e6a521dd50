-- Reports and lines of faults where the nodes of a tree are renumbered: the same, since they tell locations and no numbers.
use Rattle.std.proofs.Common.{◌≡◌, ℕ, Bool, cond, List, [], ◌∷◌, ◌++◌, Option, None, Some, refl, sym, ap, ap₂, ◌∙◌}
use Rattle.std.specs.Prelude.{codes, map, option_map, slice_get}
use Rattle.std.specs.List.{flat_map, enumerate_from}
use Rattle.std.specs.Option.{option_map_or}
use Rattle.std.proofs.lemmas.List.Folds.{flat_map-map}
use Rattle.pyx_write.specs.Elements.{element}
use Rattle.pyx_write.specs.Written.{pi_line}
use Rattle.doc_tree.specs.Laws.{WellFormed}
use Rattle.doc_tree.specs.Table.{Table}
use Rattle.doc_tree.specs.Walks.{order}
use Rattle.xp_values.specs.FaultNames.{fault_name}
use Rattle.tree_iso.specs.Renumbering.{Renumbers, SameTreesAreRenumbered, renumbered}
use Rattle.tree_iso.proofs.NumberLemmas.{told-moved}
use Rattle.sch_compiled.specs.declared.findings.Finding.{Finding}
use Rattle.sch_compiled.specs.declared.findings.Outcome.{Outcome}
use Rattle.sch_compiled.specs.declared.findings.Outcome.TheVariants.{Fault, Fired, NoRule}
use Rattle.sch_compiled.specs.declared.parts.PlanAssert.{PlanAssert}
use Rattle.sch_compiled.specs.declared.parts.PlanPattern.{PlanPattern}
use Rattle.sch_compiled.specs.declared.parts.PlanRule.{PlanRule}
use Rattle.sch_compiled.specs.declared.plan.Plan.{Plan}
use Rattle.sch_compiled.specs.declared.state_fault.StateFault.{StateFault}
use Rattle.sch_compiled.specs.declared.state_fault.StateFault.TheVariants.{AtNode, InLet}
use Rattle.sch_units.specs.Validity.{first_fault, pair_outcome}
use Rattle.sch_iso_laws.specs.Moves.{OwnLetsMove, VerdictsMove, moved_fault, moved_finding, moved_found}
use Rattle.svrl_out.specs.FaultLine.{fault_line, node_fault}
use Rattle.svrl_out.specs.Report.{active_pattern, assertion_lines, fired_rule, node_lines, ns_lines, outcome_lines, output_attributes, pattern_lines, placed_lines, rule_lines}
use Rattle.svrl_out.specs.State.{report_of, shown_by, text_by}
use Rattle.svrl_out.specs.declared.shown.Shown.TheVariants.{Clean, Findings}
use Rattle.state_iso_laws.specs.States.{LocationsStay, SameTreesShowTheSame, ShowTheSame}

told-same : {X : Type 0} (g h : X → List ℕ) → ((x : X) → h x ≡ g x) → (xs : List X) → flat_map h xs ≡ flat_map g xs
told-same g h same [] = refl
told-same g h same (x ∷ xs) = ap₂ (λ (a b : List ℕ). a ++ b) (same x) (told-same g h same xs)

module _ (stay : LocationsStay) (own : OwnLetsMove) (verdicts : VerdictsMove) (f : ℕ → ℕ) (plan : Plan) (T U : Table)
    (one : WellFormed T) (other : WellFormed U) (r : Renumbers f T U) where
  -- a finding is told alike where its node went
  finding-same : (assertions : List PlanAssert) (finding : Finding) → placed_lines U assertions (moved_finding f finding) ≡ placed_lines T assertions finding
  finding-same assertions finding =
      ap (λ (location : List ℕ). option_map_or (assertion_lines location finding) (slice_get assertions finding.assertion) []) (stay f T U finding.at one other r)

  findings-same : (assertions : List PlanAssert) (findings : List Finding) →
      flat_map (placed_lines U assertions) (map (moved_finding f) findings) ≡ flat_map (placed_lines T assertions) findings
  findings-same assertions findings =
      flat_map-map (placed_lines U assertions) (moved_finding f) findings
      ∙ told-same (placed_lines T assertions) (λ finding. placed_lines U assertions (moved_finding f finding)) (finding-same assertions) findings

  rule-same : (findings : List Finding) (found : Option PlanRule) →
      option_map_or (rule_lines U (map (moved_finding f) findings)) found [] ≡ option_map_or (rule_lines T findings) found []
  rule-same findings None = refl
  rule-same findings (Some rule) = ap (λ (l : List ℕ). fired_rule rule ++ l) (findings-same rule.assertions findings)

  outcome-same : (rules : List PlanRule) (outcome : Outcome) → outcome_lines U rules (Some (moved_found f outcome)) ≡ outcome_lines T rules (Some outcome)
  outcome-same rules NoRule = refl
  outcome-same rules (Fired rule findings) = rule-same findings (slice_get rules rule)
  outcome-same rules (Fault kind) = refl

  node-same : (rules : List PlanRule) (p n : ℕ) →
      node_lines U rules (λ m. Some (pair_outcome plan U p m)) (f n) ≡ node_lines T rules (λ m. Some (pair_outcome plan T p m)) n
  node-same rules p n =
      ap (λ (outcome : Outcome). outcome_lines U rules (Some outcome)) (own.outcomes f plan T U p n one other r) ∙ outcome-same rules (pair_outcome plan T p n)

  pattern-same : (item : ℕ × PlanPattern) →
      pattern_lines U (λ p n. Some (pair_outcome plan U p n)) item ≡ pattern_lines T (λ p n. Some (pair_outcome plan T p n)) item
  pattern-same (p, pattern) =
      ap (λ (l : List ℕ). active_pattern pattern ++ l)
      (ap (flat_map (node_lines U pattern.rules (λ n. Some (pair_outcome plan U p n)))) r.in_order
      ∙ told-moved f (node_lines T pattern.rules (λ n. Some (pair_outcome plan T p n))) (node_lines U pattern.rules (λ n. Some (pair_outcome plan U p n))) (order T)
      (λ n _. node-same pattern.rules p n))

  report-same : report_of plan U ≡ report_of plan T
  report-same =
      ap (λ (l : List ℕ). element (codes "svrl:schematron-output") (output_attributes plan) (flat_map ns_lines plan.namespaces ++ l))
      (told-same (pattern_lines T (λ p n. Some (pair_outcome plan T p n))) (pattern_lines U (λ p n. Some (pair_outcome plan U p n))) pattern-same (enumerate_from 0 plan.patterns))

  line-same : (fault : StateFault) → fault_line plan U (moved_fault f fault) ≡ fault_line plan T fault
  line-same (InLet place kind) = refl
  line-same (AtNode p n kind) = ap (λ (location : List ℕ). pi_line (codes "fault") (node_fault (fault_name kind) p location)) (stay f T U n one other r)

  text-by : (o : Option StateFault) → text_by plan U (option_map (moved_fault f) o) ≡ text_by plan T o
  text-by None = report-same
  text-by (Some fault) = line-same fault

  shown-by : (o : Option StateFault) → shown_by plan U (option_map (moved_fault f) o) ≡ shown_by plan T o
  shown-by None = ap (λ (b : Bool). cond b Findings Clean) (verdicts.findings f plan T U one other r)
  shown-by (Some fault) = refl

  show-same : ShowTheSame plan T U
  show-same = record {
    text = sym (ap (text_by plan U) (verdicts.faults f plan T U one other r) ∙ text-by (first_fault plan T));
    shown = sym (ap (shown_by plan U) (verdicts.faults f plan T U one other r) ∙ shown-by (first_fault plan T));
  }

pub same-trees-show-the-same : SameTreesAreRenumbered → LocationsStay → OwnLetsMove → VerdictsMove → SameTreesShowTheSame
same-trees-show-the-same goes stay own verdicts plan T U one other same =
    show-same stay own verdicts (renumbered T U) plan T U one other (goes T U one other same)
