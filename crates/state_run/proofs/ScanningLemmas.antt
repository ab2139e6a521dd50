-- What the loops over patterns and nodes keep.
use Rattle.std.proofs.Common.{◌≡◌, ◌∙◌, ℕ, ◌+◌, ◌<◌, ◌≤◌, ◌==◌, zero, suc, Bool, true, false, ◌||◌, List, [], ◌∷◌, length, drop, filter, slice_index_or, if◌then◌else◌, Option, None, Some, refl, sym, ap, subst, arith}
use Rattle.std.proofs.lemmas.Bool.{eqb-true, false_from_ne_true, false≢true}
use Rattle.std.proofs.lemmas.Map.Views.{any-filter_same}
use Rattle.std.proofs.lemmas.List.FromFn.{get_or-range_with_len, length-range_with_len}
use Rattle.std.specs.List.{list_any, range_with_len}
use Rattle.std.specs.Option.{option_or}
use Rattle.doc_tree.specs.Laws.{Ordered}
use Rattle.doc_tree.specs.Lists.{mem}
use Rattle.doc_tree.specs.Table.{Table}
use Rattle.doc_tree.specs.Walks.{order}
use Rattle.sch_compiled.specs.declared.plan.Plan.{Plan}
use Rattle.sch_compiled.specs.declared.state_fault.StateFault.{StateFault}
use Rattle.sch_compiled.specs.declared.findings.Outcome.{Outcome}
use Rattle.sch_compiled.specs.declared.findings.Outcome.TheVariants.{NoRule, Fired, Fault}
use Rattle.sch_compiled.specs.Findings.{OutcomeTable, ToldInOrder, is_told, outcome_at}
use Rattle.sch_units.specs.Laws.{LetsStandInOrder}
use Rattle.sch_units.specs.Units.{lets_of}
use Rattle.xp_meaning.specs.Evaluation.{Lets}
use Rattle.sch_units.specs.Validity.{finds, first_fault, first_let_fault, first_node_fault, first_with, has_finding, pair_fault, pair_outcome, pattern_numbers}
use Rattle.edit_costs.proofs.LetLemmas.{lets_whole}
use Rattle.state_run.specs.declared.scanning.Evaluated.TheVariants.{Whole, Faulted}
use Rattle.state_run.specs.Evaluated.{Evaluates}
use Rattle.state_run.specs.Outcomes.{Holds, LetsHold}
use Rattle.state_run.specs.inner.Scanning.{came_to, fault_of_node, fault_of_nodes, kept_outcome, node_finds, nodes_find, patterns_came_to}
use Rattle.state_run.proofs.Searches.{any_alike, found_all, found_on, with_alike, with_here, with_on, with_past}

-- Nodes and patterns

-- the items before a place have no fault; those from there on decide the rest
pub record ScannedTo {X : Type 0} (fault : X → Option StateFault) (found : X → Bool) (xs : List X) (i : ℕ) (any : Bool) : Type 0 where
  pub first : first_with fault (drop i xs) ≡ first_with fault xs
  pub any_is : (any || list_any found (drop i xs)) ≡ list_any found xs

-- what an item came to
fault_told : (fault : Option StateFault) (found any : Bool) → came_to fault found ≡ Whole any → (fault ≡ None) × (any ≡ found)
fault_told None found any is = (refl, let e : any ≡ found = cc in e)
fault_told (Some f) found any is = absurd (cc)

fault_is : (fault : Option StateFault) (found : Bool) (f : StateFault) → came_to fault found ≡ Faulted f → fault ≡ Some f
fault_is None found f is = absurd (cc)
fault_is (Some g) found f is = let e : g ≡ f = cc in ap Some e

module _ {X : Type 0} (fault : X → Option StateFault) (found : X → Bool) (xs : List X) where
  -- one item more, without a fault
  pub scan_goes_on : (i : ℕ) (x d : X) (was now finds : Bool) → i < length xs → x ≡ slice_index_or xs i d →
      came_to (fault x) (found x) ≡ Whole finds → now ≡ (was || finds) →
      ScannedTo fault found xs i was → ScannedTo fault found xs (i + 1) now
  scan_goes_on i x d was now finds within is came now_is so_far =
      let told = fault_told (fault x) (found x) finds came in
      record {
        first = with_on fault xs i x d (first_with fault xs) within (sym is) told.0 so_far.first;
        any_is = found_on found xs i x d was now (list_any found xs) within (sym is) (now_is ∙ ap (λ (b : Bool). was || b) told.1) so_far.any_is;
      }

  -- an item with a fault ends the scan
  pub scan_stops : (i : ℕ) (x d : X) (was : Bool) (f : StateFault) → i < length xs → x ≡ slice_index_or xs i d →
      came_to (fault x) (found x) ≡ Faulted f →
      ScannedTo fault found xs i was → Faulted f ≡ came_to (first_with fault xs) (list_any found xs)
  scan_stops i x d was f within is came so_far =
      ap (λ o. came_to o (list_any found xs)) (with_here fault xs i x d f (first_with fault xs) within (sym is) (fault_is (fault x) (found x) f came)
      so_far.first)

  -- past the end all is known
  pub scan_ends : (i : ℕ) (any : Bool) → length xs ≤ i → ScannedTo fault found xs i any →
      Whole any ≡ came_to (first_with fault xs) (list_any found xs)
  scan_ends i any past so_far =
      ap Whole (found_all found xs i any (list_any found xs) past so_far.any_is)
      ∙ ap (λ o. came_to o (list_any found xs)) (with_past fault xs i (first_with fault xs) past so_far.first)

-- the number of a pattern stands at its place
pub number_at : (count p : ℕ) → p < count → p ≡ slice_index_or (range_with_len 0 count) p 0
number_at count p within = sym (get_or-range_with_len 0 count p 0 within ∙ (let e : 0 + p ≡ p = omega arith in e))

pub number_within : (count p : ℕ) → p < count → p < length (range_with_len 0 count)
number_within count p within = omega (arith, within, length-range_with_len 0 count)

pub numbers_past : (count p : ℕ) → count ≤ p → length (range_with_len 0 count) ≤ p
numbers_past count p past = omega (arith, past, length-range_with_len 0 count)

-- a number that stands among those in a row is below their end
number_below : (from count p : ℕ) → mem p (range_with_len from count) ≡ true → p < from + count
number_below from zero p there = absurd (false≢true there)
number_below from (suc count) p there = by (p == from) refl there (number_below (from + 1) count p)
  where
    by : (b : Bool) → (p == from) ≡ b → (b || mem p (range_with_len (from + 1) count)) ≡ true →
        (mem p (range_with_len (from + 1) count) ≡ true → p < (from + 1) + count) → p < from + suc count
    by true same there rest = omega (arith, eqb-true p from same)
    by false other there rest = omega (arith, rest there)

-- an outcome that tells nothing has no fault and no finding
no_fault : (p n : ℕ) (o : Option Outcome) → is_told o ≡ false → pair_fault p n (kept_outcome o) ≡ None
no_fault p n None not_so = refl
no_fault p n (Some NoRule) not_so = refl
no_fault p n (Some (Fired rule findings)) not_so = refl
no_fault p n (Some (Fault kind)) not_so = absurd (cc)

no_finding : (o : Option Outcome) → has_finding (kept_outcome o) ≡ true → is_told o ≡ true
no_finding None finds = absurd (cc)
no_finding (Some NoRule) finds = absurd (cc)
no_finding (Some (Fired rule findings)) finds = refl
no_finding (Some (Fault kind)) finds = refl

-- what gives nothing may be left out
with_filter : {B : Type 0} (f : ℕ → Option B) (among : ℕ → Bool) (ns : List ℕ) → ((n : ℕ) → among n ≡ false → f n ≡ None) →
    first_with f (filter among ns) ≡ first_with f ns
with_filter f among [] none = refl
with_filter f among (n ∷ ns) none = by (among n) refl (with_filter f among ns none)
  where
    by : (b : Bool) → among n ≡ b → first_with f (filter among ns) ≡ first_with f ns →
        first_with f (if b then n ∷ filter among ns else filter among ns) ≡ option_or (f n) (first_with f ns)
    by true is rest = ap (option_or (f n)) rest
    by false is rest = rest ∙ sym (ap (λ o. option_or o (first_with f ns)) (none n is))

-- some nodes of a tree, among them all of which something is told, came to what all did
pub told_scanned : (T : Table) (found : OutcomeTable) (nodes : List ℕ) (count : ℕ) → ToldInOrder T found nodes → count ≤ found.patterns →
    patterns_came_to found nodes count ≡ patterns_came_to found (order T) count
told_scanned T found nodes count told few =
    ap (λ o. came_to o (list_any (nodes_find found nodes) (range_with_len 0 count))) faults
    ∙ ap (came_to (first_with (fault_of_nodes found (order T)) (range_with_len 0 count))) findings
  where
    out : (p n : ℕ) → mem p (range_with_len 0 count) ≡ true → told.among n ≡ false → is_told (outcome_at found p n) ≡ false
    out p n active not_so = false_from_ne_true (is_told (outcome_at found p n)) (λ (is : is_told (outcome_at found p n) ≡ true).
        let there : told.among n ≡ true = told.all p n (omega (arith, number_below 0 count p active, few)) is in absurd (cc))

    faults : first_with (fault_of_nodes found nodes) (range_with_len 0 count) ≡ first_with (fault_of_nodes found (order T)) (range_with_len 0 count)
    faults = with_alike (fault_of_nodes found nodes) (fault_of_nodes found (order T)) (range_with_len 0 count) (λ p active.
        ap (first_with (fault_of_node found p)) told.in_order
        ∙ with_filter (fault_of_node found p) told.among (order T) (λ n not_so. no_fault p n (outcome_at found p n) (out p n active not_so)))

    findings : list_any (nodes_find found nodes) (range_with_len 0 count) ≡ list_any (nodes_find found (order T)) (range_with_len 0 count)
    findings = any_alike (nodes_find found nodes) (nodes_find found (order T)) (range_with_len 0 count) (λ p active.
        ap (list_any (node_finds found p)) told.in_order
        ∙ any-filter_same (node_finds found p) told.among true
        (λ n finds. told.all p n (omega (arith, number_below 0 count p active, few)) (no_finding (outcome_at found p n) finds)) (order T))

-- The whole

-- the first fault of a let is the first of all
pub let_faulted : (in_order : LetsStandInOrder) (plan : Plan) (T : Table) (lets : Lets) (fault : StateFault) → LetsHold plan T lets →
    first_let_fault 0 lets ≡ Some fault →
    first_fault plan T ≡ Some fault
let_faulted in_order plan T lets fault let_holds is =
    let lets_are : lets ≡ lets_of plan T = lets_whole in_order plan T lets let_holds.few let_holds.each in
    ap (λ o. option_or o (first_with (first_node_fault plan T) (pattern_numbers plan))) (sym (ap (first_let_fault 0) lets_are) ∙ is)

-- what the outcomes that are held say is what the plan says
pub all_scanned : (in_order : LetsStandInOrder) (plan : Plan) (T : Table) (lets : Lets) (found : OutcomeTable) → Ordered T → LetsHold plan T lets →
    Holds plan T found → first_let_fault 0 lets ≡ None →
    Evaluates plan T (patterns_came_to found (order T) (length plan.patterns))
all_scanned in_order plan T lets found ordered let_holds holds none =
    subst (Evaluates plan T) (ap (λ o. came_to o (finds plan T)) (sym under_patterns)
    ∙ ap (came_to (first_with (fault_of_nodes found (order T)) (pattern_numbers plan))) (sym all_found)) told
  where
    outcome_is : (p n : ℕ) → mem p (pattern_numbers plan) ≡ true → mem n (order T) ≡ true →
        kept_outcome (outcome_at found p n) ≡ pair_outcome plan T p n
    outcome_is p n active there = ap kept_outcome (holds.outcomes p n (omega (arith, number_below 0 (length plan.patterns) p active)) there)

    under_patterns : first_with (fault_of_nodes found (order T)) (pattern_numbers plan) ≡ first_with (first_node_fault plan T) (pattern_numbers plan)
    under_patterns = with_alike (fault_of_nodes found (order T)) (first_node_fault plan T) (pattern_numbers plan) (λ p active.
        with_alike (fault_of_node found p) (λ n. pair_fault p n (pair_outcome plan T p n)) (order T)
        (λ n there. ap (pair_fault p n) (outcome_is p n active there)))

    all_found : list_any (nodes_find found (order T)) (pattern_numbers plan) ≡ finds plan T
    all_found =
        any_alike (nodes_find found (order T)) (λ p. list_any (λ n. has_finding (pair_outcome plan T p n)) (order T)) (pattern_numbers plan)
        (λ p active.
        any_alike (node_finds found p) (λ n. has_finding (pair_outcome plan T p n)) (order T)
        (λ n there. ap has_finding (outcome_is p n active there)))

    lets_are : lets ≡ lets_of plan T
    lets_are = lets_whole in_order plan T lets let_holds.few let_holds.each

    no_let : first_let_fault 0 (lets_of plan T) ≡ None
    no_let = sym (ap (first_let_fault 0) lets_are) ∙ none

    whole : first_fault plan T ≡ first_with (first_node_fault plan T) (pattern_numbers plan)
    whole = ap (λ o. option_or o (first_with (first_node_fault plan T) (pattern_numbers plan))) no_let

    told : Evaluates plan T (came_to (first_with (first_node_fault plan T) (pattern_numbers plan)) (finds plan T))
    told = by (first_with (first_node_fault plan T) (pattern_numbers plan)) refl
      where
        by : (o : Option StateFault) → first_with (first_node_fault plan T) (pattern_numbers plan) ≡ o → Evaluates plan T (came_to o (finds plan T))
        by None is = (whole ∙ is, refl)
        by (Some f) is = whole ∙ is
