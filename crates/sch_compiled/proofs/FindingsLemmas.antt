-- A table of outcomes, written at one place.
use Rattle.std.proofs.Common.{◌≡◌, ◌≢◌, ◌∙◌, ◌⊎◌, inl, inr, ℕ, ◌+◌, ◌*◌, ◌<◌, ◌≤◌, ◌==◌, suc, zero, Bool, true, false, cond, if◌then◌else◌, List, [], ◌∷◌, ◌++◌, Option, None, Some, length, take, slice_index_or, slice_set, refl, sym, ap, arith}
use Rattle.std.specs.Cmp.{IsTotalOrder, then_total, on_total, nat_cmp_total, tied_itself}
use Rattle.std.specs.FinMap as map
use Rattle.std.specs.FinMap.{nat_cmp-IsAntisymmetric}
use Rattle.std.specs.Ordering.{is_eq, nat_cmp, ordering_then, eq_by_cmp}
use Rattle.std.specs.declared.cmp.Ordering.{Ordering}
use Rattle.std.specs.declared.cmp.Ordering.TheVariants.{Less, Equal, Greater}
use Rattle.std.specs.List.{AppendsResults, FoldsTo}
use Rattle.std.proofs.Math.Nat.{mul-le-mul_right}
use Rattle.std.proofs.lemmas.Bool.{cases_order, cases_lt, eqb-true, eq-eqb, false_from_ne_true}
use Rattle.std.proofs.lemmas.List.{get_or-set_same, get_or-set_other, take_all}
use Rattle.sch_compiled.specs.declared.findings.Outcome.{Outcome}
use Rattle.sch_compiled.specs.Findings.{OutcomeTable, Puts, outcome_at, pair_cmp}
use Rattle.sch_compiled.specs.inner.Cells.{held, shown, next_node, next_pattern}

-- cells without outcomes show none
pub held-none : (count p n : ℕ) (cells : List (Option Outcome)) → ((i : ℕ) → slice_index_or cells i None ≡ None) → held count p n cells ≡ map.empty
held-none count p n [] none = refl
held-none count p n (None ∷ cells) none = held-none count (next_pattern count p) (next_node count p n) cells (λ i. none (suc i))
held-none count p n (Some outcome ∷ cells) none = absurd (some-none (none 0))
  where
    some-none : Some outcome ≡ None → ⊥
    some-none is = absurd (cc)

-- a later node's places are behind all those of an earlier one
earlier_node : (count p q n m : ℕ) → p < count → n < m → n * count + p ≡ m * count + q → ⊥
earlier_node count p q n m low before same =
    let rows : suc n * count ≤ m * count = mul-le-mul_right count before in omega arith

-- each node and pattern has a place of its own
pub same_place : (count p q n m : ℕ) → p < count → q < count → n * count + p ≡ m * count + q → (n ≡ m) × (p ≡ q)
same_place count p q n m low below same = elim (cases_order n m) [
  | inl e ↦ (e, by_row e)
  | inr other ↦ elim other [
    | inl before ↦ absurd (earlier_node count p q n m low before same)
    | inr after ↦ absurd (earlier_node count q p m n below after (sym same))
  ]
]
  where
    by_row : n ≡ m → p ≡ q
    by_row e = let rows : n * count ≡ m * count = ap (λ (k : ℕ). k * count) e in omega arith

-- the place of another node or pattern is another place
other_place : (count p q n m : ℕ) → p < count → q < count → (q ≢ p) ⊎ (m ≢ n) → m * count + q ≢ n * count + p
other_place count p q n m low below (inl differ) same = absurd (differ (same_place count q p m n below low same).1)
other_place count p q n m low below (inr differ) same = absurd (differ (same_place count q p m n below low same).0)

-- the order of pairs is total
pub pair_cmp_total : IsTotalOrder pair_cmp
pair_cmp_total = then_total (on_total (λ pair. pair.1) nat_cmp_total) (on_total (λ pair. pair.0) nat_cmp_total)

equal : (r : Ordering) → is_eq r ≡ true → r ≡ Equal
equal Less is = absurd (cc)
equal Equal is = refl
equal Greater is = absurd (cc)

both_equal : (r s : Ordering) → is_eq (ordering_then r s) ≡ true → (is_eq r ≡ true) × (is_eq s ≡ true)
both_equal Less s is = absurd (cc)
both_equal Equal s is = (refl, is)
both_equal Greater s is = absurd (cc)

-- only the same pairs tie
not_tied : (p n q m : ℕ) → (q ≡ p → m ≡ n → ⊥) → eq_by_cmp pair_cmp (q, m) (p, n) ≡ false
not_tied p n q m differ = false_from_ne_true (eq_by_cmp pair_cmp (q, m) (p, n)) (λ (is : eq_by_cmp pair_cmp (q, m) (p, n) ≡ true).
    let parts = both_equal (nat_cmp m n) (nat_cmp q p) is in
    differ (nat_cmp-IsAntisymmetric q p (equal (nat_cmp q p) parts.1)) (nat_cmp-IsAntisymmetric m n (equal (nat_cmp m n) parts.0)))

tied : (p n q m : ℕ) → q ≡ p → m ≡ n → eq_by_cmp pair_cmp (q, m) (p, n) ≡ true
tied p n q m same_p same_n = rw (same_p, same_n) (ap is_eq (tied_itself pair_cmp_total (p, n)))

-- the next pattern is one of those that are counted
next-low : (count p : ℕ) → p < count → next_pattern count p < count
next-low count p low = by (suc p == count) refl
  where
    by : (b : Bool) → (suc p == count) ≡ b → (if b then 0 else suc p) < count
    by true is = omega arith
    by false is = let other : suc p ≢ count = λ (e : suc p ≡ count). (let t : (suc p == count) ≡ true = eq-eqb (suc p) count e in absurd (cc)) in omega arith

-- the next cell is one behind
next-place : (count p n : ℕ) → next_node count p n * count + next_pattern count p ≡ suc (n * count + p)
next-place count p n = by (suc p == count) refl
  where
    by : (b : Bool) → (suc p == count) ≡ b → (if b then suc n else n) * count + (if b then 0 else suc p) ≡ suc (n * count + p)
    by true is = let last : suc p ≡ count = eqb-true (suc p) count is in omega arith
    by false is = omega arith

-- a pair that is not the first cell's is among the rest
held-skip : (count p n : ℕ) (cell : Option Outcome) (cells : List (Option Outcome)) (pair : ℕ × ℕ) → eq_by_cmp pair_cmp pair (p, n) ≡ false →
    map.get (held count p n (cell ∷ cells)) pair ≡ map.get (held count (next_pattern count p) (next_node count p n) cells) pair
held-skip count p n None cells pair other = refl
held-skip count p n (Some outcome) cells pair other = map.get-insert pair_cmp_total (held count (next_pattern count p) (next_node count p n) cells) (p, n) outcome pair
    ∙ ap (λ b. cond b (Some outcome) (map.get (held count (next_pattern count p) (next_node count p n) cells) pair)) other

held-first : (count p n : ℕ) (cell : Option Outcome) (cells : List (Option Outcome)) (pair : ℕ × ℕ) → eq_by_cmp pair_cmp pair (p, n) ≡ true →
    map.get (held count (next_pattern count p) (next_node count p n) cells) pair ≡ None → map.get (held count p n (cell ∷ cells)) pair ≡ cell
held-first count p n None cells pair same none = none
held-first count p n (Some outcome) cells pair same none = map.get-insert pair_cmp_total (held count (next_pattern count p) (next_node count p n) cells) (p, n) outcome pair
    ∙ ap (λ b. cond b (Some outcome) (map.get (held count (next_pattern count p) (next_node count p n) cells) pair)) same

-- no cell is that of a pair before the first one
held-before : (count p n q m : ℕ) (cells : List (Option Outcome)) → p < count → m * count + q < n * count + p → map.get (held count p n cells) (q, m) ≡ None
held-before count p n q m [] low less = map.get-empty pair_cmp (q, m)
held-before count p n q m (cell ∷ cells) low less =
    held-skip count p n cell cells (q, m) (not_tied p n q m (λ same_p same_n. let rows : m * count ≡ n * count = ap (λ (k : ℕ). k * count) same_n in omega arith))
    ∙ held-before count (next_pattern count p) (next_node count p n) q m cells (next-low count p low) (omega (arith, next-place count p n))

-- a pair's cell is as far behind the first one as its place is
held-behind : (count p n q m k : ℕ) (cells : List (Option Outcome)) → p < count → q < count → m * count + q ≡ n * count + p + k → map.get (held count p n cells) (q, m) ≡ slice_index_or cells k None
held-behind count p n q m k [] low below is = map.get-empty pair_cmp (q, m)
held-behind count p n q m zero (cell ∷ cells) low below is =
    let same = same_place count q p m n below low (omega arith) in
    held-first count p n cell cells (q, m) (tied p n q m same.1 same.0)
    (held-before count (next_pattern count p) (next_node count p n) q m cells (next-low count p low) (omega (arith, next-place count p n)))
held-behind count p n q m (suc k) (cell ∷ cells) low below is =
    held-skip count p n cell cells (q, m) (not_tied p n q m (λ same_p same_n. let rows : m * count ≡ n * count = ap (λ (j : ℕ). j * count) same_n in omega arith))
    ∙ held-behind count (next_pattern count p) (next_node count p n) q m k cells (next-low count p low) below (omega (arith, next-place count p n))

-- no cell is that of a pattern past those that are counted
held-outside : (count p n q m : ℕ) (cells : List (Option Outcome)) → p < count → count ≤ q → map.get (held count p n cells) (q, m) ≡ None
held-outside count p n q m [] low past = map.get-empty pair_cmp (q, m)
held-outside count p n q m (cell ∷ cells) low past =
    held-skip count p n cell cells (q, m) (not_tied p n q m (λ same_p same_n. omega arith))
    ∙ held-outside count (next_pattern count p) (next_node count p n) q m cells (next-low count p low) past

-- the outcome of a node under a pattern stands in its cell
pub held-at : (count p n : ℕ) (cells : List (Option Outcome)) → p < count → outcome_at (shown count cells) p n ≡ slice_index_or cells (n * count + p) None
held-at count p n cells low = held-behind count 0 0 p n (n * count + p) cells (omega arith) low (omega arith)

-- the same in a table that shows the cells
pub shown-at : (table : OutcomeTable) (count p n : ℕ) (cells : List (Option Outcome)) → table ≡ shown count cells → p < count → outcome_at table p n ≡ slice_index_or cells (n * count + p) None
shown-at table count p n cells was low = ap (λ (t : OutcomeTable). outcome_at t p n) was ∙ held-at count p n cells low

-- cells that read alike show the same outcomes
alike-at : (count p n : ℕ) (old new : List (Option Outcome)) → 0 < count → (p < count → slice_index_or new (n * count + p) None ≡ slice_index_or old (n * count + p) None) → outcome_at (shown count new) p n ≡ outcome_at (shown count old) p n
alike-at count p n old new some alike = elim (cases_lt p count) [
  | inl low ↦ held-at count p n new low ∙ (alike low ∙ sym (held-at count p n old low))
  | inr past ↦ held-outside count 0 0 p n new some past ∙ sym (held-outside count 0 0 p n old some past)
]

-- a table whose cells stay, perhaps with empty ones behind, has an outcome written at the place of a node and a pattern
pub set-puts : (before after : OutcomeTable) (count : ℕ) (old cells : List (Option Outcome)) (place pattern node : ℕ) (outcome : Option Outcome) → before ≡ shown count old → after ≡ shown count (slice_set cells place outcome) →
    pattern < count → place ≡ node * count + pattern → place < length cells →
    ((i : ℕ) → slice_index_or cells i None ≡ slice_index_or old i None) → Puts before after pattern node outcome
set-puts before after count old cells place pattern node outcome was is low at within same = record {
  patterns = ap (λ (t : OutcomeTable). t.patterns) is ∙ sym (ap (λ (t : OutcomeTable). t.patterns) was);
  there = ap (λ (t : OutcomeTable). outcome_at t pattern node) is
      ∙ (held-at count pattern node (slice_set cells place outcome) low
      ∙ (ap (λ (i : ℕ). slice_index_or (slice_set cells place outcome) i None) (sym at) ∙ get_or-set_same cells place outcome None within));
  others = λ p n differ. ap (λ (t : OutcomeTable). outcome_at t p n) is
      ∙ (alike-at count p n old (slice_set cells place outcome) (omega arith) (λ below.
      let apart : n * count + p ≢ place = λ e. other_place count pattern p node n low below differ (e ∙ at) in
      get_or-set_other cells place (n * count + p) outcome None apart ∙ same (n * count + p))
      ∙ sym (ap (λ (t : OutcomeTable). outcome_at t p n) was));
}

-- a table has no outcome at a place behind its cells
pub none-puts : (before : OutcomeTable) (count : ℕ) (cells : List (Option Outcome)) (pattern node : ℕ) → before ≡ shown count cells → pattern < count → length cells ≤ node * count + pattern → Puts before before pattern node None
none-puts before count cells pattern node was low past = record {
  patterns = refl;
  there = ap (λ (t : OutcomeTable). outcome_at t pattern node) was ∙ (held-at count pattern node cells low ∙ past-none cells (node * count + pattern) past);
  others = λ p n differ. refl;
}
  where
    past-none : (cs : List (Option Outcome)) (i : ℕ) → length cs ≤ i → slice_index_or cs i None ≡ None
    past-none [] i few = refl
    past-none (c ∷ cs) zero few = absurd (omega arith)
    past-none (c ∷ cs) (suc i) few = past-none cs i (omega arith)

-- calls that give one value give it anywhere
all_given : {F X : Type 0} (d : X) (step : F → X → F → Type 0) →
    ((f : F) (x : X) (g : F) → step f x g → x ≡ d) →
    (f : F) (ys : List X) (last : F) → FoldsTo step f ys last → (i : ℕ) → slice_index_or ys i d ≡ d
all_given d step gives f [] last run i = refl
all_given d step gives f (y ∷ ys) last run zero = gives f y run.0 run.1
all_given d step gives f (y ∷ ys) last run (suc i) = all_given d step gives run.0 ys last run.2 i

-- where that value alone stands behind, each place reads as before
alike_behind : {X : Type 0} (d : X) (items more : List X) → ((i : ℕ) → slice_index_or more i d ≡ d) →
    (i : ℕ) → slice_index_or (items ++ more) i d ≡ slice_index_or items i d
alike_behind d [] more none i = none i
alike_behind d (item ∷ items) more none zero = refl
alike_behind d (item ∷ items) more none (suc i) = alike_behind d items more none i

-- items to which calls that give one value added some read as before, past the end that value
pub same_items : {F X : Type 0} (d : X) (step : F → X → F → Type 0) →
    ((f : F) (x : X) (g : F) → step f x g → x ≡ d) →
    (count : ℕ) (old new : List X) (f : F) → length old ≤ count →
    AppendsResults step (take count old) new f → (i : ℕ) → slice_index_or new i d ≡ slice_index_or old i d
same_items d step gives count old new f few added i =
    ap (λ (items : List _). slice_index_or items i d)
    (added.2 ∙ ap (λ (items : List _). items ++ added.0) (take_all count old few))
    ∙ alike_behind d old added.0 (all_given d step gives f added.0 added.1 added.3) i
