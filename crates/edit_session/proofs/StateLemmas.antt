-- The state of a document from what was evaluated: the table can be reported, and its report is that of the tree.
use Rattle.std.proofs.Common.{◌≡◌, ◌∙◌, ℕ, ◌+◌, ◌-◌, ◌<◌, ◌≤◌, ◌==◌, Bool, true, false, ◌||◌, if◌then◌else◌, List, [], ◌∷◌, ◌++◌, length, All, Option, None, Some, IsSomeAnd, Result, Ok, Err, IsErrAnd, refl, sym, ap, subst, arith, codes}
use Rattle.std.proofs.lemmas.Bool.{eq-eqb}
use Rattle.std.proofs.lemmas.List.FromFn.{get_or-range_with_len, length-range_with_len}
use Rattle.std.specs.List.{enumerate_from, flat_map, range_with_len}
use Rattle.std.specs.Option.{option_or}
use Rattle.doc_tree.specs.Laws.{HasWaysUp, Ordered}
use Rattle.doc_tree.specs.Lists.{mem}
use Rattle.doc_tree.specs.Table.{Table}
use Rattle.doc_tree.specs.Walks.{order}
use Rattle.xp_meaning.specs.Evaluation.{Lets}
use Rattle.xp_values.specs.declared.values.EvalFault.{EvalFault}
use Rattle.sch_compiled.specs.declared.findings.Outcome.{Outcome}
use Rattle.sch_compiled.specs.declared.findings.Outcome.TheVariants.{NoRule, Fired, Fault}
use Rattle.sch_compiled.specs.declared.parts.PlanPattern.{PlanPattern}
use Rattle.sch_compiled.specs.declared.parts.PlanRule.{PlanRule}
use Rattle.sch_compiled.specs.declared.plan.Plan.{Plan}
use Rattle.sch_compiled.specs.declared.state_fault.StateFault.{StateFault}
use Rattle.sch_compiled.specs.declared.state_fault.StateFault.TheVariants.{InLet, AtNode}
use Rattle.sch_compiled.specs.Findings.{FindsAtLiveNodes, IsFindingOf, OutcomeTable, outcome_at}
use Rattle.sch_compiled.specs.Plan.{rules_of}
use Rattle.sch_units.specs.Laws.{FirstMatchFires, LetsStandInOrder}
use Rattle.sch_units.specs.Units.{lets_of, unit_pair}
use Rattle.sch_units.specs.Validity.{first_fault, first_let_fault, first_node_fault, first_with, finds, outcome_of, pair_fault, pair_outcome, pattern_numbers}
use Rattle.pyx_write.specs.Elements.{element}
use Rattle.svrl_out.specs.declared.report.OutError.{OutError}
use Rattle.svrl_out.specs.declared.report.OutError.TheVariants as out
use Rattle.svrl_out.specs.FaultLine.{IsFaultOf, fault_line}
use Rattle.svrl_out.specs.Report.{IsOutcomeOf, IsReportable, Reported, active_pattern, node_lines, ns_lines, outcome_lines, output_attributes, pattern_lines, report}
use Rattle.sch_io.specs.SinkLog.{SinkLog}
use Rattle.std.proofs.KnownBytes.{Appends-nil}
use Rattle.sch_io.specs.Wrote.{Appends}
use Rattle.edit_session.specs.declared.state.ReportError.{ReportError}
use Rattle.edit_session.specs.declared.state.ReportError.TheVariants.{Memory}
use Rattle.edit_session.specs.shown.Shown.{Shown}
use Rattle.edit_session.specs.shown.Shown.TheVariants as shown
use Rattle.edit_session.specs.State.{report_of, shown_by, shows, state_text, text_by}
use Rattle.edit_session.specs.Wrote.{WroteState}
use Rattle.kept_units.specs.Outcomes.{Holds}
use Rattle.kept_units.specs.LiveReads.{PairsFindAtLiveNodes}
use Rattle.edit_session.specs.inner.Shown.{ShownAs, shown_of}
use Rattle.edit_session.proofs.SearchLemmas.{mem_item, or_right, with_none, with_some}

-- The report

-- two functions that agree on a list give one `flat_map`
flat_map_same : {A : Type 0} (f g : ℕ → List A) (ns : List ℕ) → ((n : ℕ) → mem n ns ≡ true → f n ≡ g n) → flat_map f ns ≡ flat_map g ns
flat_map_same f g [] agree = refl
flat_map_same f g (n ∷ ns) agree =
    let here : f n ≡ g n = agree n (ap (λ (b : Bool). b || mem n ns) (eq-eqb n n refl)) in
    let rest : flat_map f ns ≡ flat_map g ns = flat_map_same f g ns (λ m is. agree m (or_right (m == n) (mem m ns) is)) in
    cc

-- a report is decided by the outcomes of the live nodes under the plan's patterns
patterns_same : (T : Table) (f g : ℕ → ℕ → Option Outcome) (place : ℕ) (patterns : List PlanPattern) →
    ((p n : ℕ) → place ≤ p → p < place + length patterns → mem n (order T) ≡ true → f p n ≡ g p n) →
    flat_map (pattern_lines T f) (enumerate_from place patterns) ≡ flat_map (pattern_lines T g) (enumerate_from place patterns)
patterns_same T f g place [] agree = refl
patterns_same T f g place (pattern ∷ patterns) agree =
    let here : pattern_lines T f (place, pattern) ≡ pattern_lines T g (place, pattern) =
    ap (λ (lines : List ℕ). active_pattern pattern ++ lines)
    (flat_map_same (node_lines T pattern.rules (f place)) (node_lines T pattern.rules (g place)) (order T)
    (λ n there. ap (outcome_lines T pattern.rules) (agree place n (omega arith) (omega arith) there))) in
    let rest = patterns_same T f g (place + 1) patterns (λ p n above below there. agree p n (omega (arith, above)) (omega (arith, below)) there) in
    cc

pub report_same : (plan : Plan) (T : Table) (found : OutcomeTable) → Holds plan T found → report_of plan T ≡ report plan T (outcome_at found)
report_same plan T found holds =
    ap (λ (body : List ℕ). element (codes "svrl:schematron-output") (output_attributes plan) (flat_map ns_lines plan.namespaces ++ body))
    (patterns_same T (λ p n. Some (pair_outcome plan T p n)) (outcome_at found) 0 plan.patterns (λ p n above below there. sym (holds.outcomes p n (omega (arith, below)) there)))

-- The outcomes

-- where there is no first fault, no let and no node has one
no_fault : (a b : Option StateFault) → option_or a b ≡ None → b ≡ None
no_fault None b is = is
no_fault (Some fault) b is = absurd (cc)

-- the number of a pattern is among the numbers
numbered : (from count p : ℕ) → from ≤ p → p < from + count → mem p (range_with_len from count) ≡ true
numbered from count p above below =
    mem_item (range_with_len from count) (p - from) p 0 (omega (arith, length-range_with_len from count)) (get_or-range_with_len from count (p - from) 0 (omega arith) ∙ (let e : from + (p - from) ≡ p = omega arith in e))

pub pair_clear : (plan : Plan) (T : Table) → first_fault plan T ≡ None → (p n : ℕ) → p < length plan.patterns → mem n (order T) ≡ true → pair_fault p n (pair_outcome plan T p n) ≡ None
pair_clear plan T is p n below there =
    let none = no_fault (first_let_fault 0 (lets_of plan T)) (first_with (first_node_fault plan T) (pattern_numbers plan)) is in
    with_none (λ m. pair_fault p m (pair_outcome plan T p m)) (order T)
    (with_none (first_node_fault plan T) (pattern_numbers plan) none p (numbered 0 (length plan.patterns) p (omega arith) (omega arith))) n there

-- an outcome that is no fault names a rule of the pattern, and findings of its assertions at live nodes
outcome_is : (fires : FirstMatchFires) (plan : Plan) (T : Table) (L : Lets) (p n : ℕ) (answer : Result Outcome EvalFault) → (unit_pair plan T L p n).answer ≡ answer →
    pair_fault p n (outcome_of answer) ≡ None → FindsAtLiveNodes T (outcome_of answer) → IsOutcomeOf T (rules_of plan p) (Some (outcome_of answer))
outcome_is fires plan T L p n (Err f) is none live = absurd (cc)
outcome_is fires plan T L p n (Ok NoRule) is none live = tt
outcome_is fires plan T L p n (Ok (Fault f)) is none live = absurd (fires.no_fault plan T L p n f is)
outcome_is fires plan T L p n (Ok (Fired r findings)) is none live =
    let alone = fires.fired plan T L p n r findings is in
    (subst (λ (found : Option PlanRule). IsSomeAnd found (λ rule. All (IsFindingOf rule.assertions) findings)) (sym alone.there) alone.findings, live)

-- where there is no fault, the table can be reported
pub reportable : (plan : Plan) (T : Table) (found : OutcomeTable) → FirstMatchFires → PairsFindAtLiveNodes → Ordered T → HasWaysUp T → first_fault plan T ≡ None →
    Holds plan T found → IsReportable plan T found
reportable plan T found fires places ordered up none holds = record {
  patterns = holds.patterns;
  outcomes = λ p n below live.
      let there = sym (ordered.live_in_order n) ∙ live in
      subst (IsOutcomeOf T (rules_of plan p)) (sym (holds.outcomes p n below there))
      (outcome_is fires plan T (lets_of plan T) p n (unit_pair plan T (lets_of plan T) p n).answer refl (pair_clear plan T none p n below there)
      (places.own plan T p n ordered up live));
}

-- The first fault

-- a fault of a let names its slot
slot_of : (slot : ℕ) (L : Lets) (fault : StateFault) → first_let_fault slot L ≡ Some fault → (s : ℕ) × (kind : EvalFault) × (fault ≡ InLet s kind) × (s < slot + length L)
slot_of slot [] fault is = absurd (cc)
slot_of slot (None ∷ L) fault is = let rest = slot_of (slot + 1) L fault is in (rest.0, rest.1, rest.2, omega (arith, rest.3))
slot_of slot (Some (Ok v) ∷ L) fault is = let rest = slot_of (slot + 1) L fault is in (rest.0, rest.1, rest.2, omega (arith, rest.3))
slot_of slot (Some (Err f) ∷ L) fault is = (slot, f, let e : fault ≡ InLet slot f = cc in e, omega arith)

-- a fault of a node names it
node_of : (p n : ℕ) (outcome : Outcome) (fault : StateFault) → pair_fault p n outcome ≡ Some fault → (kind : EvalFault) × (fault ≡ AtNode p n kind)
node_of p n NoRule fault is = absurd (cc)
node_of p n (Fired rule findings) fault is = absurd (cc)
node_of p n (Fault f) fault is = (f, let e : fault ≡ AtNode p n f = cc in e)

pub fault_is_of : (plan : Plan) (T : Table) (fault : StateFault) → LetsStandInOrder → Ordered T → first_fault plan T ≡ Some fault → IsFaultOf plan T fault
fault_is_of plan T fault lets ordered is = by (first_let_fault 0 (lets_of plan T)) refl is
  where
    by : (first : Option StateFault) → first_let_fault 0 (lets_of plan T) ≡ first → option_or first (first_with (first_node_fault plan T) (pattern_numbers plan)) ≡ Some fault → IsFaultOf plan T fault
    by (Some f) first is =
        let at = slot_of 0 (lets_of plan T) fault (first ∙ is) in
        subst (IsFaultOf plan T) (sym at.2) (let e : at.0 < length plan.lets = omega (arith, at.3, lets.count plan T) in e)
    by None first is =
        let under = with_some (first_node_fault plan T) (pattern_numbers plan) fault is in
        let at = with_some (λ n. pair_fault under.0 n (pair_outcome plan T under.0 n)) (order T) fault under.2 in
        let names = node_of under.0 at.0 (pair_outcome plan T under.0 at.0) fault at.2 in
        subst (IsFaultOf plan T) (sym names.1) (ordered.live_in_order at.0 ∙ at.1)

-- The whole

-- what a report shows
shows_found : (b : Bool) → shown_of b ≡ (if b then shown.Findings else shown.Clean)
shows_found true = refl
shows_found false = refl

-- a text that was written is that of the state, as far as it was written
wrote_state : (old new : SinkLog) (plan : Plan) (T : Table) (text : List ℕ) (written : Result (Unit {0}) OutError) (showing : Shown) (result : Result Shown ReportError) →
    Reported old new text written → ShownAs written showing result → state_text plan T ≡ text → showing ≡ shows plan T → WroteState old new plan T result
wrote_state old new plan T text written showing result reported shows_as same says = by written reported shows_as
  where
    by : (written : Result (Unit {0}) OutError) → Reported old new text written → ShownAs written showing result → WroteState old new plan T result
    by (Ok done) reported shows_as = subst (λ (r : Result Shown ReportError). WroteState old new plan T r) (sym shows_as) (record {
      counted = reported.counted;
      grown = (says, subst (Appends old.written new.written) (sym same) reported.grown);
    })
    by (Err out.Failed) reported shows_as = subst (λ (r : Result Shown ReportError). WroteState old new plan T r) (sym shows_as) (record {
      counted = reported.counted;
      grown = (reported.grown.0, reported.grown.1, same ∙ reported.grown.2, reported.grown.3);
    })
    by (Err out.Memory) reported shows_as = subst (λ (r : Result Shown ReportError). WroteState old new plan T r) (sym shows_as) (record {
      counted = reported.counted;
      grown = (reported.grown.0, reported.grown.1, same ∙ reported.grown.2, reported.grown.3);
    })

-- the report that was written is the state
pub whole_wrote : (plan : Plan) (T : Table) (found : OutcomeTable) (any : Bool) (old new : SinkLog) (written : Result (Unit {0}) OutError) (result : Result Shown ReportError) →
    first_fault plan T ≡ None → any ≡ finds plan T → Holds plan T found → Reported old new (report plan T (outcome_at found)) written → ShownAs written (shown_of any) result → WroteState old new plan T result
whole_wrote plan T found any old new written result none any_is holds reported shows_as =
    wrote_state old new plan T (report plan T (outcome_at found)) written (shown_of any) result reported shows_as
    (ap (text_by plan T) none ∙ report_same plan T found holds)
    (ap shown_of any_is ∙ shows_found (finds plan T) ∙ sym (ap (shown_by plan T) none))

-- and so is the line of the first fault
pub fault_wrote : (plan : Plan) (T : Table) (fault : StateFault) (old new : SinkLog) (written : Result (Unit {0}) OutError) (result : Result Shown ReportError) →
    first_fault plan T ≡ Some fault → Reported old new (fault_line plan T fault) written → ShownAs written shown.Fault result → WroteState old new plan T result
fault_wrote plan T fault old new written result first reported shows_as =
    wrote_state old new plan T (fault_line plan T fault) written shown.Fault result reported shows_as
    (ap (text_by plan T) first) (sym (ap (shown_by plan T) first))

-- where memory ran out before anything was written, nothing was
pub memory-wrote : (log : SinkLog) (plan : Plan) (T : Table) (result : Result Shown ReportError) → IsErrAnd result (λ error. error ≡ Memory) →
    WroteState log log plan T result
memory-wrote log plan T (Ok shown) is = absurd is
memory-wrote log plan T (Err error) is =
    subst (λ (e : ReportError). WroteState log log plan T (Err e)) (sym is)
    (record { counted = refl; grown = ([], state_text plan T, refl, Appends-nil log.written) })
