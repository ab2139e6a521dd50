-- Where a tree has no first fault, the evaluation of none of its units meets one.
use Rattle.std.proofs.Common.{◌≡◌, ◌∙◌, ℕ, zero, suc, ◌+◌, ◌<◌, ◌≤◌, Bool, true, false, not, cond, ◌||◌, List, [], ◌∷◌, ◌++◌, length, Option, None, Some, Result, Ok, Err, refl, sym, ap, subst, arith, true≢false}
use Rattle.std.specs.Prelude.{filter, is_none, map}
use Rattle.std.specs.List.{flat_map, list_any, range_with_len}
use Rattle.std.proofs.lemmas.List.Folds.{list_any-append}
use Rattle.doc_tree.specs.Laws.{Ordered}
use Rattle.doc_tree.specs.Table.{Table, is_live}
use Rattle.sch_io.specs.SinkLog.{SinkLog}
use Rattle.xp_meaning.specs.Evaluation.{Lets}
use Rattle.xp_outcome.specs.Slots.{in_slot}
use Rattle.sch_compiled.specs.declared.plan.Plan.{Plan}
use Rattle.sch_compiled.specs.declared.state_fault.StateFault.{StateFault}
use Rattle.sch_units.specs.Units.{lets_of}
use Rattle.sch_units.specs.Validity.{first_fault, first_let_fault, first_node_fault, first_with, let_fault, pattern_numbers}
use Rattle.kept_units.specs.Costs.{Raised, cost_of}
use Rattle.kept_units.specs.Units.{ValidationUnit, has_fault, in_force, let_units, node_units, under, units_of}
use Rattle.kept_units.specs.Kept.{Kept}
use Rattle.kept_units.specs.Running.{is_run, to_run}
use Rattle.edit_session.specs.declared.state.ReportError.{ReportError}
use Rattle.edit_session.specs.shown.Shown.{Shown}
use Rattle.edit_session.specs.shown.Shown.TheVariants.{Fault}
use Rattle.edit_session.specs.State.{shown_by, shows}
use Rattle.edit_session.specs.Wrote.{RoseBy, WroteState}
use Rattle.edit_session.proofs.SearchLemmas.{option_none}
use Rattle.edit_session.proofs.StateLemmas.{pair_clear}

-- Tests that nothing passes

none-kept : {A : Type 0} (test p : A → Bool) (xs : List A) → list_any test xs ≡ false → list_any test (filter p xs) ≡ false
none-kept test p [] none = refl
none-kept test p (x ∷ xs) none = by (test x) refl (p x) none (none-kept test p xs)
  where
    by : (here : Bool) → test x ≡ here → (stays : Bool) → (here || list_any test xs) ≡ false → (list_any test xs ≡ false → list_any test (filter p xs) ≡ false) →
        list_any test (cond stays (x ∷ filter p xs) (filter p xs)) ≡ false
    by true is stays none rest = absurd (true≢false none)
    by false is true none rest = ap (λ (b : Bool). b || list_any test (filter p xs)) is ∙ rest none
    by false is false none rest = rest none

none-of-map : {A : Type 0} (test : A → Bool) (f : ℕ → A) (ns : List ℕ) → ((n : ℕ) → test (f n) ≡ false) → list_any test (map f ns) ≡ false
none-of-map test f [] none = refl
none-of-map test f (n ∷ ns) none = ap (λ (b : Bool). b || list_any test (map f ns)) (none n) ∙ none-of-map test f ns none

none-of-kept : {A : Type 0} (test : A → Bool) (f : ℕ → A) (p : ℕ → Bool) (ns : List ℕ) → ((n : ℕ) → p n ≡ true → test (f n) ≡ false) → list_any test (map f (filter p ns)) ≡ false
none-of-kept test f p [] none = refl
none-of-kept test f p (n ∷ ns) none = by (p n) refl (none-of-kept test f p ns none)
  where
    by : (stays : Bool) → p n ≡ stays → list_any test (map f (filter p ns)) ≡ false → list_any test (map f (cond stays (n ∷ filter p ns) (filter p ns))) ≡ false
    by true is rest = ap (λ (b : Bool). b || list_any test (map f (filter p ns))) (none n is) ∙ rest
    by false is rest = rest

none-of-both : {A : Type 0} (test : A → Bool) (xs ys : List A) → list_any test xs ≡ false → list_any test ys ≡ false → list_any test (xs ++ ys) ≡ false
none-of-both test xs ys left right = list_any-append test xs ys ∙ ap (λ (b : Bool). b || list_any test ys) left ∙ right

none-of-range : {A : Type 0} (test : A → Bool) (f : ℕ → List A) (from count : ℕ) → ((k : ℕ) → from ≤ k → k < from + count → list_any test (f k) ≡ false) →
    list_any test (flat_map f (range_with_len from count)) ≡ false
none-of-range test f from zero none = refl
none-of-range test f from (suc count) none =
    none-of-both test (f from) (flat_map f (range_with_len (from + 1) count)) (none from (omega arith) (omega arith))
    (none-of-range test f (from + 1) count (λ k above below. none k (omega arith) (omega arith)))

-- Units without a fault

lets-clear : (from : ℕ) (L : Lets) → first_let_fault from L ≡ None → (k : ℕ) → let_fault (from + k) (in_slot L k) ≡ None
lets-clear from [] is k = refl
lets-clear from (outcome ∷ outcomes) is zero =
    let e : from + 0 ≡ from = omega arith in
    ap (λ (slot : ℕ). let_fault slot outcome) e ∙ (option_none (let_fault from outcome) (first_let_fault (from + 1) outcomes) is).0
lets-clear from (outcome ∷ outcomes) is (suc k) =
    let e : from + suc k ≡ from + 1 + k = omega arith in
    ap (λ (slot : ℕ). let_fault slot (in_slot outcomes k)) e
    ∙ lets-clear (from + 1) outcomes (option_none (let_fault from outcome) (first_let_fault (from + 1) outcomes) is).1 k

let-clear : (plan : Plan) (T : Table) → first_fault plan T ≡ None → (slot : ℕ) → has_fault plan T (in_force slot) ≡ false
let-clear plan T is slot =
    let none = (option_none (first_let_fault 0 (lets_of plan T)) (first_with (first_node_fault plan T) (pattern_numbers plan)) is).0 in
    let e : 0 + slot ≡ slot = omega arith in
    let here : let_fault slot (in_slot (lets_of plan T) slot) ≡ None = subst (λ (s : ℕ). let_fault s (in_slot (lets_of plan T) slot) ≡ None) e (lets-clear 0 (lets_of plan T) none slot) in
    ap (λ (o : Option StateFault). not (is_none o)) here

nodes-clear : (plan : Plan) (T : Table) → Ordered T → first_fault plan T ≡ None → (p : ℕ) → p < length plan.patterns → list_any (has_fault plan T) (node_units T p) ≡ false
nodes-clear plan T ordered is p below =
    none-of-kept (has_fault plan T) (under p) (is_live T) (range_with_len 0 (length T))
    (λ n lives. ap (λ (o : Option StateFault). not (is_none o)) (pair_clear plan T is p n below (sym (ordered.live_in_order n) ∙ lives)))

pub units-clear : (plan : Plan) (T : Table) → Ordered T → first_fault plan T ≡ None → list_any (has_fault plan T) (units_of plan T) ≡ false
units-clear plan T ordered is =
    none-of-both (has_fault plan T) (let_units plan) (flat_map (node_units T) (pattern_numbers plan))
    (none-of-map (has_fault plan T) in_force (range_with_len 0 (length plan.lets)) (let-clear plan T is))
    (none-of-range (has_fault plan T) (node_units T) 0 (length plan.patterns) (λ p above below. nodes-clear plan T ordered is p (omega arith)))

pub run-clear : (plan : Plan) (T : Table) (kept : Kept) → Ordered T → first_fault plan T ≡ None → list_any (has_fault plan T) (to_run plan T kept) ≡ false
run-clear plan T kept ordered is = none-kept (has_fault plan T) (is_run plan T kept) (units_of plan T) (units-clear plan T ordered is)

-- What a report shows

first-clear : (plan : Plan) (T : Table) (seen : Shown) → seen ≡ shows plan T → (seen ≡ Fault → ⊥) → first_fault plan T ≡ None
first-clear plan T seen is whole = by (first_fault plan T) is
  where
    by : (first : Option StateFault) → seen ≡ shown_by plan T first → first ≡ None
    by None is = refl
    by (Some fault) is = absurd (whole is)

-- a report that shows no fault counts the visits of the units that were to be evaluated, where none of those has a fault then
pub counts-whole : (plan : Plan) (T : Table) (units : List ValidationUnit) (before after : ℕ) (old new : SinkLog) (result : Result Shown ReportError) →
    (first_fault plan T ≡ None → list_any (has_fault plan T) units ≡ false) → WroteState old new plan T result → Raised plan T units before after →
    RoseBy (cost_of plan T units) before after result
counts-whole plan T units before after old new (Ok seen) clear wrote raised = λ whole. raised.exactly (clear (first-clear plan T seen wrote.grown.0 whole))
counts-whole plan T units before after old new (Err error) clear wrote raised = tt
