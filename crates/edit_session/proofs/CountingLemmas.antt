-- What the nodes of which something is told add up to is what all nodes do, by their outcomes.
use Rattle.std.proofs.Common.{◌≡◌, ◌∙◌, ℕ, zero, suc, ◌+◌, ◌<◌, ◌≤◌, ◌==◌, Bool, true, false, ◌||◌, if◌then◌else◌, List, [], ◌∷◌, length, Option, None, Some, Result, Ok, Err, IfOk, refl, sym, ap, arith}
use Rattle.std.specs.Prelude.{filter, is_some, slice_get, slice_index_or, sum_by}
use Rattle.std.specs.Option.{option_map_or}
use Rattle.std.proofs.lemmas.Option.{slice_get_read}
use Rattle.std.specs.List.{range_with_len}
use Rattle.std.proofs.lemmas.Bool.{eq-eqb, false_from_ne_true}
use Rattle.std.proofs.lemmas.List.Sums.{sum_by-cons}
use Rattle.doc_tree.specs.Laws.{Ordered}
use Rattle.doc_tree.specs.Lists.{mem}
use Rattle.doc_tree.specs.Table.{Contents, Table}
use Rattle.doc_tree.specs.Walks.{order}
use Rattle.sch_compiled.specs.declared.findings.Outcome.{Outcome}
use Rattle.sch_compiled.specs.declared.findings.Outcome.TheVariants.{NoRule, Fired, Fault}
use Rattle.sch_compiled.specs.declared.parts.PlanRule.{PlanRule}
use Rattle.sch_compiled.specs.declared.plan.Plan.{Plan}
use Rattle.sch_compiled.specs.declared.state_fault.StateFault.{StateFault}
use Rattle.sch_compiled.specs.Findings.{OutcomeTable, ToldInOrder, is_told, outcome_at}
use Rattle.sch_compiled.specs.Plan.{rules_of}
use Rattle.sch_units.specs.Validity.{first_fault, pair_outcome}
use Rattle.kept_units.specs.scanning.Evaluated.{Evaluated}
use Rattle.kept_units.specs.scanning.Evaluated.TheVariants.{Whole, Faulted}
use Rattle.kept_units.specs.Evaluated.{Evaluates}
use Rattle.kept_units.specs.Costs.{Raised, cost_of}
use Rattle.kept_units.specs.Kept.{Kept}
use Rattle.kept_units.specs.Running.{to_run}
use Rattle.edit_session.specs.Counts.{counts_of, failed_assertions, fired_rules, over_pairs, successful_reports}
use Rattle.edit_session.specs.declared.counting.Counts.{Counts}
use Rattle.edit_session.specs.declared.counting.Tally.{Tally}
use Rattle.edit_session.specs.Standing.{Standing}
use Rattle.edit_session.specs.inner.Counting.{Counted, FiredRules, FailedAssertions, SuccessfulReports, adds, adds_kept, counts_by, fault_of, node_adds, nodes_add, pairs_add, part}
use Rattle.kept_units.specs.Outcomes.{Holds}
use Rattle.edit_session.proofs.FaultLemmas.{run-clear}
use Rattle.edit_session.proofs.SearchLemmas.{or_right}

-- Sums

sum-two : (f : ℕ → ℕ) (n : ℕ) (ns : List ℕ) (a b : ℕ) → f n ≡ a → sum_by f ns ≡ b → sum_by f (n ∷ ns) ≡ a + b
sum-two f n ns a b here rest = omega (arith, sum_by-cons f n ns, here, rest)

-- two functions that agree on a list have one sum
sums-agree : (f g : ℕ → ℕ) (ns : List ℕ) → ((n : ℕ) → mem n ns ≡ true → f n ≡ g n) → sum_by f ns ≡ sum_by g ns
sums-agree f g [] agree = refl
sums-agree f g (n ∷ ns) agree =
    sum-two f n ns (g n) (sum_by g ns) (agree n (ap (λ (b : Bool). b || mem n ns) (eq-eqb n n refl))) (sums-agree f g ns (λ m is. agree m (or_right (m == n) (mem m ns) is)))
    ∙ sym (sum_by-cons g n ns)

-- what adds nothing may be left out
sum-filter : (f : ℕ → ℕ) (among : ℕ → Bool) (ns : List ℕ) → ((n : ℕ) → among n ≡ false → f n ≡ 0) → sum_by f (filter among ns) ≡ sum_by f ns
sum-filter f among [] none = refl
sum-filter f among (n ∷ ns) none = by (among n) refl (sum-filter f among ns none)
  where
    by : (b : Bool) → among n ≡ b → sum_by f (filter among ns) ≡ sum_by f ns → sum_by f (if b then n ∷ filter among ns else filter among ns) ≡ sum_by f (n ∷ ns)
    by true is rest = sum-two f n (filter among ns) (f n) (sum_by f ns) refl rest ∙ sym (sum_by-cons f n ns)
    by false is rest = omega (arith, rest, sum_by-cons f n ns, none n is)

-- a range with one number more
sum-range : (f : ℕ → ℕ) (a n j : ℕ) → a + n ≡ j → sum_by f (range_with_len a (suc n)) ≡ sum_by f (range_with_len a n) + f j
sum-range f a zero j is =
    let same : a ≡ j = omega (arith, is) in
    let value : f a ≡ f j = ap f same in
    omega (arith, sum_by-cons f a [], value)
sum-range f a (suc n) j is =
    let rest : sum_by f (range_with_len (a + 1) (suc n)) ≡ sum_by f (range_with_len (a + 1) n) + f j = sum-range f (a + 1) n j (omega (arith, is)) in
    omega (arith, sum_by-cons f a (range_with_len (a + 1) (suc n)), sum_by-cons f a (range_with_len (a + 1) n), rest)

pub sum-on : (f : ℕ → ℕ) (n sum more next : ℕ) → sum ≡ sum_by f (range_with_len 0 n) → more ≡ f n → next ≡ sum + more → next ≡ sum_by f (range_with_len 0 (n + 1))
sum-on f n sum more next so_far more_is is =
    let first : 0 + n ≡ n = omega arith in
    let later : suc n ≡ n + 1 = omega arith in
    let all : sum_by f (range_with_len 0 (suc n)) ≡ sum_by f (range_with_len 0 n) + f n = sum-range f 0 n n first in
    let end : sum_by f (range_with_len 0 (n + 1)) ≡ sum_by f (range_with_len 0 (suc n)) = ap (λ (k : ℕ). sum_by f (range_with_len 0 k)) (sym later) in
    omega (arith, so_far, more_is, is, all, end)

-- Outcomes

-- an outcome that tells nothing adds nothing
untold : (what : Counted) (rules : List PlanRule) (o : Option Outcome) → is_told o ≡ false → adds_kept what rules o ≡ 0
untold what rules None not_so = refl
untold FiredRules rules (Some NoRule) not_so = refl
untold FailedAssertions rules (Some NoRule) not_so = refl
untold SuccessfulReports rules (Some NoRule) not_so = refl
untold what rules (Some (Fired rule findings)) not_so = absurd (cc)
untold FiredRules rules (Some (Fault kind)) not_so = refl
untold FailedAssertions rules (Some (Fault kind)) not_so = refl
untold SuccessfulReports rules (Some (Fault kind)) not_so = refl

module _ (what : Counted) (plan : Plan) (T : Table) (found : OutcomeTable) (nodes : List ℕ) (told : ToldInOrder T found nodes) (holds : Holds plan T found) where
  -- what all nodes add under a pattern
  all-nodes : (p : ℕ) → p < length plan.patterns → nodes_add what plan found nodes p ≡ sum_by (λ n. adds what (rules_of plan p) (pair_outcome plan T p n)) (order T)
  all-nodes p below =
      let low : p < found.patterns = omega (arith, below, holds.patterns) in
      ap (sum_by (node_adds what found p (rules_of plan p))) told.in_order
      ∙ sum-filter (node_adds what found p (rules_of plan p)) told.among (order T) (λ n out.
      untold what (rules_of plan p) (outcome_at found p n) (false_from_ne_true (is_told (outcome_at found p n)) (λ (is : is_told (outcome_at found p n) ≡ true).
      let there : told.among n ≡ true = told.all p n low is in absurd (cc))))
      ∙ sums-agree (node_adds what found p (rules_of plan p)) (λ n. adds what (rules_of plan p) (pair_outcome plan T p n)) (order T)
      (λ n there. ap (adds_kept what (rules_of plan p)) (holds.outcomes p n below there))

  -- and under all patterns
  pub all-pairs : pairs_add what plan found nodes ≡ over_pairs plan T (adds what)
  all-pairs = over 0 (length plan.patterns) (λ p above below. all-nodes p (omega (arith, below)))
    where
      over : (a n : ℕ) → ((p : ℕ) → a ≤ p → p < a + n → nodes_add what plan found nodes p ≡ sum_by (λ m. adds what (rules_of plan p) (pair_outcome plan T p m)) (order T)) →
          sum_by (nodes_add what plan found nodes) (range_with_len a n) ≡ sum_by (λ p. sum_by (λ m. adds what (rules_of plan p) (pair_outcome plan T p m)) (order T)) (range_with_len a n)
      over a zero each = refl
      over a (suc n) each =
          sum-two (nodes_add what plan found nodes) a (range_with_len (a + 1) n) _ _ (each a (omega arith) (omega arith)) (over (a + 1) n (λ p above below. each p (omega (arith, above)) (omega (arith, below))))
          ∙ sym (sum_by-cons (λ p. sum_by (λ m. adds what (rules_of plan p) (pair_outcome plan T p m)) (order T)) a (range_with_len (a + 1) n))

-- the first fault is what the units came to
pub fault-is : (plan : Plan) (T : Table) (evaluated : Evaluated) → Evaluates plan T evaluated → fault_of evaluated ≡ first_fault plan T
fault-is plan T (Whole found) whole = sym whole.0
fault-is plan T (Faulted fault) is = sym is

-- what is counted, one by one
pub counts-are : (plan : Plan) (T : Table) (tally : Tally) (faulted : Bool) → ((what : Counted) → part what tally ≡ over_pairs plan T (adds what)) →
    faulted ≡ is_some (first_fault plan T) → counts_by tally faulted ≡ counts_of plan T
counts-are plan T tally faulted parts fault =
    ap (λ (n : ℕ). counts_by (record { fired = n; failed = tally.failed; reports = tally.reports }) faulted) (parts FiredRules)
    ∙ ap (λ (n : ℕ). counts_by (record { fired = fired_rules plan T; failed = n; reports = tally.reports }) faulted) (parts FailedAssertions)
    ∙ ap (λ (n : ℕ). counts_by (record { fired = fired_rules plan T; failed = failed_assertions plan T; reports = n }) faulted) (parts SuccessfulReports)
    ∙ ap (counts_by (record { fired = fired_rules plan T; failed = failed_assertions plan T; reports = successful_reports plan T })) fault

-- the item at a place
pub at_place : {A B : Type 0} (f : A → B) (xs : List A) (i : ℕ) (x : A) (d : B) → x ≡ slice_index_or xs i x → i < length xs → option_map_or f (slice_get xs i) d ≡ f x
at_place f xs i x d is less = ap (λ (o : Option _). option_map_or f o d) (slice_get_read xs (length xs) i x refl less is)

-- a count without a fault rose by the visits of all that was to be evaluated
counted-whole : (plan : Plan) (T : Table) (kept : Kept) (before after : ℕ) → Ordered T → Raised plan T (to_run plan T kept) before after → is_some (first_fault plan T) ≡ false →
    after ≡ before + cost_of plan T (to_run plan T kept)
counted-whole plan T kept before after ordered raised whole = raised.exactly (run-clear plan T kept ordered (none (first_fault plan T) whole))
  where
    none : (o : Option StateFault) → is_some o ≡ false → o ≡ None
    none None is = refl
    none (Some fault) is = absurd (cc)

-- what is counted of a session that was refreshed is counted of it as it was
pub counted-as : {E : Type 0} (before after : Standing) → after.plan ≡ before.plan → after.tree ≡ before.tree → (result : Result Counts E) →
    IfOk result (λ counts. counts ≡ counts_of after.plan after.tree.nodes) → IfOk result (λ counts. counts ≡ counts_of before.plan before.tree.nodes)
counted-as before after plan tree (Ok counts) counted =
    counted ∙ ap (λ (p : Plan). counts_of p after.tree.nodes) plan ∙ ap (λ (t : Contents). counts_of before.plan t.nodes) tree
counted-as before after plan tree (Err error) counted = tt

pub counted-by : {E : Type 0} (plan : Plan) (T : Table) (kept : Kept) (before after : ℕ) (result : Result Counts E) → Ordered T → Raised plan T (to_run plan T kept) before after →
    IfOk result (λ counts. counts ≡ counts_of plan T) → IfOk result (λ counts. counts.faulted ≡ false → after ≡ before + cost_of plan T (to_run plan T kept))
counted-by plan T kept before after (Ok counts) ordered raised counted = λ whole.
    counted-whole plan T kept before after ordered raised (sym (ap (λ (c : Counts). c.faulted) counted) ∙ whole)
counted-by plan T kept before after (Err error) ordered raised counted = tt
