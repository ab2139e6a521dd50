-- What is given by levels along `extends` settles after as many levels as there are rules, where these stand in an order.
use Rattle.std.proofs.Common.{◌≡◌, ℕ, ◌+◌, ◌-◌, ◌≤◌, zero, suc, Bool, true, false, cond, ◌||◌, List, [], ◌∷◌, ◌++◌, length, refl, sym, ap, subst, ◌∙◌, append_assoc, append-nil, arith, length-append}
use Rattle.std.specs.List.{flat_map}
use Rattle.std.proofs.lemmas.Bool.{and_parts}
use Rattle.std.proofs.lemmas.List.Folds.{list_any-append}
use Rattle.sch_model.specs.declared.raw.RawItem.{RawItem}
use Rattle.sch_model.specs.declared.raw.RawItem.TheVariants as item
use Rattle.sch_model.specs.declared.raw.RawRule.{RawRule}
use Rattle.sch_references.specs.Extends.{is_id, is_named, items_named}
use Rattle.sch_references.specs.Order.{IsOrderOf, extends_only, is_sorted}
use Rattle.sch_expansion.specs.Stands.{ExtendsAreReplaced, replaced, stands, stands_for}
use Rattle.sch_expansion.specs.inner.Walks.{all_visits, visits, visits_for}

-- rules in front, and the one with a name behind them
named-front : (before rest : List RawRule) (rule : RawRule) (name : List ℕ) → is_named before name ≡ false → is_id name rule.id ≡ true →
    items_named (before ++ rule ∷ rest) name ≡ rule.items
named-front [] rest rule name none is = ap (λ b. cond b rule.items (items_named rest name)) is
named-front (r ∷ before) rest rule name none is =
    by (is_id name r.id) none (named-front before rest rule name)
  where
    by : (b : Bool) → (b || is_named before name) ≡ false → (is_named before name ≡ false → is_id name rule.id ≡ true → items_named (before ++ rule ∷ rest) name ≡ rule.items) →
        cond b r.items (items_named (before ++ rule ∷ rest) name) ≡ rule.items
    by true e more = absurd (cc)
    by false e more = more e is

-- no rule has the name
named-none : (rules : List RawRule) (name : List ℕ) → is_named rules name ≡ false → items_named rules name ≡ []
named-none [] name none = refl
named-none (rule ∷ rules) name none = by (is_id name rule.id) none (named-none rules name)
  where
    by : (b : Bool) → (b || is_named rules name) ≡ false → (is_named rules name ≡ false → items_named rules name ≡ []) → cond b rule.items (items_named rules name) ≡ []
    by true e more = absurd (cc)
    by false e more = more e

or-false : (b : Bool) → (b || false) ≡ b
or-false true = refl
or-false false = refl

last-named : (before : List RawRule) (rule : RawRule) (name : List ℕ) → is_named (before ++ rule ∷ []) name ≡ (is_named before name || is_id name rule.id)
last-named before rule name = list_any-append (λ r. is_id name r.id) before (rule ∷ []) ∙ ap (λ b. is_named before name || b) (or-false (is_id name rule.id))

-- what is given by levels, from a step over the items of rules by what the names in them give
pub record IsByLevels {X : Type 0} (step : (List ℕ → X) → List RawItem → X) (items : List ℕ → List RawItem) (given : ℕ → List ℕ → X) : Type 0 where
  pub starts : (f : List ℕ → X) (name : List ℕ) → given zero name ≡ step f []
  pub goes : (levels : ℕ) (name : List ℕ) → given (suc levels) name ≡ step (given levels) (items name)
  pub same : (f h : List ℕ → X) (before : List RawRule) (its : List RawItem) → extends_only before its ≡ true →
      ((name : List ℕ) → is_named before name ≡ true → f name ≡ h name) → step f its ≡ step h its

or-right : (b c : Bool) → b ≡ false → (b || c) ≡ true → c ≡ true
or-right false c e h = h
or-right true c e h = absurd (cc)

module _ {X : Type 0} (step : (List ℕ → X) → List RawItem → X) (items : List ℕ → List RawItem) (given : ℕ → List ℕ → X) (by_levels : IsByLevels step items given) where
  abbrev Settled : List RawRule → Type 0
  Settled before = (name : List ℕ) (levels : ℕ) → is_named before name ≡ true → length before ≤ levels → given levels name ≡ given (suc levels) name

  -- the rule behind those that have settled
  settled-here : (before : List RawRule) (rule : RawRule) (name : List ℕ) (levels : ℕ) → extends_only before rule.items ≡ true → items name ≡ rule.items →
      Settled before → suc (length before) ≤ levels → given levels name ≡ given (suc levels) name
  settled-here before rule name zero only is so_far least = absurd (omega arith)
  settled-here before rule name (suc levels) only is so_far least =
      by_levels.goes levels name
      ∙ ap (step (given levels)) is
      ∙ by_levels.same (given levels) (given (suc levels)) before rule.items only (λ n e. so_far n levels e (omega arith))
      ∙ ap (step (given (suc levels))) (sym is)
      ∙ sym (by_levels.goes (suc levels) name)

  settled-more : (before : List RawRule) (rule : RawRule) → extends_only before rule.items ≡ true →
      ((name : List ℕ) → is_named before name ≡ false → is_id name rule.id ≡ true → items name ≡ rule.items) → Settled before → Settled (before ++ rule ∷ [])
  settled-more before rule only front so_far = λ name levels named least.
      let long : suc (length before) ≤ levels = omega (arith, length-append before (rule ∷ []), least) in
      pick name levels (is_named before name) refl (sym (last-named before rule name) ∙ named) long
    where
      pick : (name : List ℕ) (levels : ℕ) (b : Bool) → is_named before name ≡ b → (is_named before name || is_id name rule.id) ≡ true → suc (length before) ≤ levels →
          given levels name ≡ given (suc levels) name
      pick name levels true e named long = so_far name levels e (omega arith)
      pick name levels false e named long =
          settled-here before rule name levels only (front name e (or-right (is_named before name) (is_id name rule.id) e named)) so_far long

  settled-all : (before rest all : List RawRule) → all ≡ before ++ rest → is_sorted before rest ≡ true → ((name : List ℕ) → items_named all name ≡ items name) →
      Settled before → Settled all
  settled-all before [] all split sorted its so_far = subst Settled (sym (append-nil before) ∙ sym split) so_far
  settled-all before (rule ∷ rest) all split sorted its so_far =
      let parts = and_parts (extends_only before rule.items) (is_sorted (before ++ rule ∷ []) rest) sorted in
      settled-all (before ++ rule ∷ []) rest all (split ∙ sym (append_assoc before (rule ∷ []) rest)) parts.1 its
      (settled-more before rule parts.0
      (λ name none is. sym (its name) ∙ ap (λ l. items_named l name) split ∙ named-front before rest rule name none is) so_far)

  -- a name that no rule has
  unnamed : (name : List ℕ) (levels : ℕ) → items name ≡ [] → given levels name ≡ given zero name
  unnamed name zero none = refl
  unnamed name (suc levels) none = by_levels.goes levels name ∙ ap (step (given levels)) none ∙ sym (by_levels.starts (given levels) name)

  pub settled : (ordered : List RawRule) → is_sorted [] ordered ≡ true → ((name : List ℕ) → items_named ordered name ≡ items name) →
      (name : List ℕ) (levels : ℕ) → length ordered ≤ levels → given levels name ≡ given (suc levels) name
  settled ordered sorted its name levels least = pick (is_named ordered name) refl
    where
      pick : (b : Bool) → is_named ordered name ≡ b → given levels name ≡ given (suc levels) name
      pick true e = settled-all [] ordered ordered refl sorted its (λ n l named. absurd (cc)) name levels e least
      pick false e =
          let none : items name ≡ [] = sym (its name) ∙ named-none ordered name e in
          unnamed name levels none ∙ sym (unnamed name (suc levels) none)

  pub fixed : (ordered : List RawRule) → is_sorted [] ordered ≡ true → ((name : List ℕ) → items_named ordered name ≡ items name) →
      (name : List ℕ) (levels : ℕ) → length ordered ≤ levels → given levels name ≡ step (given levels) (items name)
  fixed ordered sorted its name levels least = settled ordered sorted its name levels least ∙ by_levels.goes levels name

  pub stays : (ordered : List RawRule) → is_sorted [] ordered ≡ true → ((name : List ℕ) → items_named ordered name ≡ items name) →
      (name : List ℕ) (levels more : ℕ) → length ordered ≤ levels → given levels name ≡ given (levels + more) name
  stays ordered sorted its name levels zero least =
      let e : levels ≡ levels + zero = omega arith in ap (λ l. given l name) e
  stays ordered sorted its name levels (suc more) least =
      let e : suc (levels + more) ≡ levels + suc more = omega arith in
      stays ordered sorted its name levels more least
      ∙ settled ordered sorted its name (levels + more) (omega arith)
      ∙ ap (λ l. given l name) e

-- what items stand for, and how many visits they take, by levels
stands-same : (f h : List ℕ → List RawItem) (before : List RawRule) (its : List RawItem) → extends_only before its ≡ true →
    ((name : List ℕ) → is_named before name ≡ true → f name ≡ h name) → flat_map (replaced f) its ≡ flat_map (replaced h) its
stands-same f h before [] only e = refl
stands-same f h before (item.Let decl ∷ its) only e = ap (λ l. item.Let decl ∷ l) (stands-same f h before its only e)
stands-same f h before (item.Assertion assertion ∷ its) only e = ap (λ l. item.Assertion assertion ∷ l) (stands-same f h before its only e)
stands-same f h before (item.Extends node name ∷ its) only e =
    let parts = and_parts (is_named before name) (extends_only before its) only in
    ap (λ l. l ++ flat_map (replaced f) its) (e name parts.0) ∙ ap (λ l. h name ++ l) (stands-same f h before its parts.1 e)

visits-same : (f h : List ℕ → ℕ) (before : List RawRule) (its : List RawItem) → extends_only before its ≡ true →
    ((name : List ℕ) → is_named before name ≡ true → f name ≡ h name) → all_visits f its ≡ all_visits h its
visits-same f h before [] only e = refl
visits-same f h before (item.Let decl ∷ its) only e = ap (λ n. suc (suc (0 + n))) (visits-same f h before its only e)
visits-same f h before (item.Assertion assertion ∷ its) only e = ap (λ n. suc (suc (0 + n))) (visits-same f h before its only e)
visits-same f h before (item.Extends node name ∷ its) only e =
    let parts = and_parts (is_named before name) (extends_only before its) only in
    ap (λ n. suc (suc (n + all_visits f its))) (e name parts.0) ∙ ap (λ n. suc (suc (h name + n))) (visits-same f h before its parts.1 e)

stands-by-levels : (rules : List RawRule) → IsByLevels (λ f its. flat_map (replaced f) its) (items_named rules) (stands rules)
stands-by-levels rules = record { starts = λ f name. refl; goes = λ levels name. refl; same = stands-same }

visits-by-levels : (rules : List RawRule) → IsByLevels (λ f its. all_visits f its) (items_named rules) (visits rules)
visits-by-levels rules = record { starts = λ f name. refl; goes = λ levels name. refl; same = visits-same }

-- an `extends` gives way to what its rule stands for
pub extends-replaced : (rules ordered : List RawRule) → IsOrderOf rules ordered → ExtendsAreReplaced rules
extends-replaced rules ordered order = λ name.
    fixed (λ f its. flat_map (replaced f) its) (items_named rules) (stands rules) (stands-by-levels rules) ordered order.sorted order.items name (length rules) order.no_more

pub sorted-replaced : (rules : List RawRule) → is_sorted [] rules ≡ true → (name : List ℕ) → stands_for rules name ≡ flat_map (replaced (stands_for rules)) (items_named rules name)
sorted-replaced rules sorted name =
    fixed (λ f its. flat_map (replaced f) its) (items_named rules) (stands rules) (stands-by-levels rules) rules sorted (λ n. refl) name (length rules) (omega arith)

pub sorted-visits : (rules : List RawRule) → is_sorted [] rules ≡ true → (name : List ℕ) → visits_for rules name ≡ all_visits (visits_for rules) (items_named rules name)
sorted-visits rules sorted name =
    fixed (λ f its. all_visits f its) (items_named rules) (visits rules) (visits-by-levels rules) rules sorted (λ n. refl) name (length rules) (omega arith)

-- the rules in their order stand for the same
level-same : (rules ordered : List RawRule) (levels : ℕ) → ((name : List ℕ) → items_named ordered name ≡ items_named rules name) →
    (name : List ℕ) → stands ordered levels name ≡ stands rules levels name
level-same rules ordered zero its name = refl
level-same rules ordered (suc levels) its name =
    ap (λ f. flat_map (replaced f) (items_named ordered name)) (λ t n. level-same rules ordered levels its n t)
    ∙ ap (flat_map (replaced (stands rules levels))) (its name)

pub stands-ordered : (rules ordered : List RawRule) → IsOrderOf rules ordered → stands_for ordered ≡ stands_for rules
stands-ordered rules ordered order = λ t name. at_name name t
  where
    at_name : (name : List ℕ) → stands_for ordered name ≡ stands_for rules name
    at_name name =
        let least : length ordered ≤ length rules = order.no_more in
        let e : length ordered + (length rules - length ordered) ≡ length rules = omega (arith, least) in
        level-same rules ordered (length ordered) order.items name
        ∙ stays (λ f its. flat_map (replaced f) its) (items_named rules) (stands rules) (stands-by-levels rules) ordered order.sorted order.items name (length ordered) (length rules - length ordered) (omega arith)
        ∙ ap (λ l. stands rules l name) e

pub item-unnamed : (rules : List RawRule) (name : List ℕ) → is_named rules name ≡ false → items_named rules name ≡ []
item-unnamed rules name none = named-none rules name none
