-- What filters keep of a list, and at which place.
use Rattle.std.proofs.Common.{◌≡◌, ℕ, suc, ◌≤◌, ◌==◌, ◌||◌, Bool, true, false, cond, List, [], ◌∷◌, length, Some, ⊎_elim, refl, sym, ap, subst, ◌∙◌, slice_get, arith, eq-eqb, eqb-true, ne_eqb}
use Rattle.std.specs.Prelude.{filter}
use Rattle.doc_tree.specs.Lists.{mem, Distinct}
use Rattle.doc_tree.proofs.ListLemmas.{In, mem-In, In-mem, In-cons, occurs-head}
use Rattle.doc_locations.specs.Locations.{place_among}
use Rattle.doc_axes.proofs.SubLists.{sub-one, filter-sub}

-- a filter keeps no more than there is
pub filter-few : (p : ℕ → Bool) (xs : List ℕ) → length (filter p xs) ≤ length xs
filter-few p [] = omega arith
filter-few p (x ∷ xs) = by (p x) (filter-few p xs)
  where
    by : (b : Bool) → length (filter p xs) ≤ length xs → length (cond b (x ∷ filter p xs) (filter p xs)) ≤ length (x ∷ xs)
    by true few = omega (arith, few)
    by false few = omega (arith, few)

-- where all pass, it keeps all
pub filter-all : (p : ℕ → Bool) (xs : List ℕ) → ((m : ℕ) → In m xs → p m ≡ true) → filter p xs ≡ xs
filter-all p [] all = refl
filter-all p (x ∷ xs) all = rw (all x (occurs-head x xs)) (ap (λ l. x ∷ l) (filter-all p xs (λ m k. all m (omega (arith, k)))))

-- where one alone passes, it keeps that one
pub filter-only : (p : ℕ → Bool) (n : ℕ) (xs : List ℕ) → Distinct xs → mem n xs ≡ true → p n ≡ true →
    ((m : ℕ) → mem m xs ≡ true → p m ≡ true → m ≡ n) → filter p xs ≡ n ∷ []
filter-only p n xs once there is only = filter-sub p (sub-one n xs (mem-In n xs there)) once (λ m k. tested m k (p m) refl)
  where
    tested : (m : ℕ) → In m xs → (b : Bool) → p m ≡ b → p m ≡ mem m (n ∷ [])
    tested m k true passes = passes ∙ sym (ap (λ t. t || false) (eq-eqb m n (only m (In-mem m xs k) passes)))
    tested m k false fails = fails ∙ sym (ap (λ t. t || false) (ne_eqb m n (λ e. absurd (let lost : p n ≡ false = subst (λ q. p q ≡ false) e fails in cc))))

-- ---- places

-- a number that passes stands among those that do just where it is counted
pub record Placed (passes : ℕ → Bool) (n : ℕ) (ms : List ℕ) : Type 0 where
  pub before : ℕ
  pub place : place_among passes n ms ≡ suc before
  pub stands : slice_get (filter passes ms) before ≡ Some n
  pub few : suc before ≤ length ms

first_placed : (passes : ℕ → Bool) (n m : ℕ) (ms : List ℕ) → (m == n) ≡ true → passes n ≡ true → Placed passes n (m ∷ ms)
first_placed passes n m ms same is =
    let own : passes m ≡ true = ap passes (eqb-true m n same) ∙ is in
    record {
      before = 0;
      place = rw (own, same) (omega arith);
      stands = rw own (ap Some (eqb-true m n same));
      few = omega arith;
    }

later_placed : (passes : ℕ → Bool) (n m : ℕ) (ms : List ℕ) → (m == n) ≡ false → Placed passes n ms → (b : Bool) → passes m ≡ b → Placed passes n (m ∷ ms)
later_placed passes n m ms other p true own = record {
  before = suc p.before;
  place = rw (own, other) (omega (arith, p.place));
  stands = rw own p.stands;
  few = omega (arith, p.few);
}
later_placed passes n m ms other p false own = record {
  before = p.before;
  place = rw (own, other) (omega (arith, p.place));
  stands = rw own p.stands;
  few = omega (arith, p.few);
}

-- a number that is not the first one stands behind it
stands_behind : (n m : ℕ) (ms : List ℕ) → (m == n) ≡ false → mem n (m ∷ ms) ≡ true → mem n ms ≡ true
stands_behind n m ms other there = ⊎_elim
    (λ (e : n ≡ m). absurd (let same : (m == n) ≡ true = eq-eqb m n (sym e) in cc))
    (λ (k : In n ms). In-mem n ms k)
    (In-cons n m ms (mem-In n (m ∷ ms) there))

pub placed : (passes : ℕ → Bool) (n : ℕ) (ms : List ℕ) → mem n ms ≡ true → passes n ≡ true → Placed passes n ms
placed passes n [] there is = absurd (cc)
placed passes n (m ∷ ms) there is = by (m == n) refl (λ (later : mem n ms ≡ true). placed passes n ms later is)
  where
    by : (b : Bool) → (m == n) ≡ b → (mem n ms ≡ true → Placed passes n ms) → Placed passes n (m ∷ ms)
    by true same on = first_placed passes n m ms same is
    by false other on = later_placed passes n m ms other (on (stands_behind n m ms other there)) (passes m) refl
