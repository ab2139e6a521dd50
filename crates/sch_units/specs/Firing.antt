-- What a rule gives at a node that fires it (ISO/IEC 19757-3, clauses 5.4 and 6).
use Rattle.std.specs.Prelude.{ℕ, ◌+◌, Bool, not, List, [], ◌∷◌, Option, None, Some, Ok, if◌then◌else◌, slice_index_or}
use Rattle.std.specs.Option.{option_or, option_to_list}
use Rattle.doc_tree.specs.Table.{Table}
use Rattle.xp_typed_tree.specs.TypedTree.{TypedTree}
use Rattle.xp_outcome.specs.Evaluation.{Evaluation, done, bind, gather}
use Rattle.xp_outcome.specs.Slots.{with_slot}
use Rattle.xp_values.specs.declared.values.EvalFault.{EvalFault}
use Rattle.xp_values.specs.Conversions.{to_truth}
use Rattle.xp_meaning.specs.Conversions.{nodes_of}
use Rattle.xp_meaning.specs.Evaluation.{Lets, meaning}
use Rattle.xslt_match.specs.Matching.{matching}
use Rattle.sch_compiled.specs.declared.parts.PlanLet.{PlanLet}
use Rattle.sch_compiled.specs.declared.parts.PlanAssert.{PlanAssert}
use Rattle.sch_compiled.specs.declared.parts.PlanRule.{PlanRule}
use Rattle.sch_compiled.specs.declared.findings.Finding.{Finding}
use Rattle.sch_compiled.specs.declared.findings.Outcome.{Outcome}
use Rattle.sch_compiled.specs.declared.findings.Outcome.TheVariants.{NoRule, Fired}
use Rattle.sch_units.specs.Messages.{alone, message, diagnostic_texts}

-- whether a test's truth is a finding: of a report where it is true, of an assert where it is false
abbrev pub is_found : Bool → Bool → Bool
is_found report truth = if report then truth else not truth

-- the node that a finding is at: the first in document order that a subject selects at the context node; the context node itself
-- where it selects nothing, or where there is no subject (ISO/IEC 19757-3:2016, on `subject`)
abbrev pub placed_at : Table → Lets → ℕ → Option TypedTree → Evaluation EvalFault ℕ
placed_at T L n None = done n
placed_at T L n (Some subject) = bind (meaning T L subject (alone n)) (λ v. done (slice_index_or (nodes_of v) 0 n))

-- the finding of an assertion: where it is, by its own subject or else its rule's, the texts of its diagnostics, those of its
-- properties, then its message
abbrev pub found : Table → Lets → ℕ → Option TypedTree → ℕ → PlanAssert → Evaluation EvalFault Finding
found T L n subject i a =
    bind (placed_at T L n (option_or a.subject subject)) (λ place.
    bind (diagnostic_texts T L n a.diagnostics) (λ texts.
    bind (diagnostic_texts T L n a.properties) (λ properties.
    bind (message T L n a.message) (λ text.
    done (record { assertion = i; at = place; diagnostics = texts; properties = properties; message = text })))))

-- an assertion at a node: its test, and where there is a finding, its place and its texts
abbrev pub asserted : Table → Lets → ℕ → Option TypedTree → ℕ → PlanAssert → Evaluation EvalFault (Option Finding)
asserted T L n subject i a =
    bind (meaning T L a.test (alone n)) (λ v.
    if is_found a.report (to_truth v) then bind (found T L n subject i a) (λ finding. done (Some finding)) else done None)

-- the findings of the assertions of a rule with a subject or none, in order
abbrev pub all_asserted : Table → Lets → ℕ → Option TypedTree → List PlanAssert → Evaluation EvalFault (List Finding)
all_asserted T L n subject assertions = gather (λ i a. asserted T L n subject i a) (λ _ _ finding. option_to_list finding) 0 assertions

-- the findings of a rule at a node that fires it: its lets in order, each in the next slot, then its assertions
abbrev pub fired_by : Table → Lets → ℕ → ℕ → Option TypedTree → List PlanLet → List PlanAssert → Evaluation EvalFault (List Finding)
fired_by T L n slot subject [] assertions = all_asserted T L n subject assertions
fired_by T L n slot subject (t ∷ lets) assertions =
    bind (meaning T L t.expr (alone n)) (λ v. fired_by T (with_slot L slot (Ok v)) n (slot + 1) subject lets assertions)

-- the rules in order until the first that matches the node, which fires alone; the first of them has the place r
abbrev pub first_rule : Table → ℕ → Lets → ℕ → ℕ → List PlanRule → Evaluation EvalFault Outcome
first_rule T count L n r [] = done NoRule
first_rule T count L n r (rule ∷ rules) =
    bind (matching T L rule.context n) (λ matches.
    if matches then bind (fired_by T L n count rule.subject rule.lets rule.assertions) (λ findings. done (Fired r findings))
    else first_rule T count L n (r + 1) rules)
