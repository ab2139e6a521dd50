-- Lists that are filtered, and lists of entries.
use Rattle.std.proofs.Common.{◌≡◌, ◌∙◌, ℕ, zero, suc, ◌+◌, ◌<◌, ◌≤◌, Bool, true, false, cond, List, [], ◌∷◌, ◌++◌, length, Option, ap, arith, append-nil, length-append}
use Rattle.std.proofs.lemmas.List.{length-replicate, length-set}
use Rattle.std.proofs.lemmas.List.Elements.{filter-append}
use Rattle.std.specs.List.{filter, range_with_len}
use Rattle.xp_outcome.specs.Slots.{with_slot}

-- Numbers and tests

-- numbers in a row, and then those behind them
pub range_split : (a m k : ℕ) → range_with_len a (m + k) ≡ range_with_len a m ++ range_with_len (a + m) k
range_split a zero k =
    let same : 0 + k ≡ k = omega arith in
    let here : a ≡ a + 0 = omega arith in
    ap (range_with_len a) same ∙ ap (λ (b : ℕ). range_with_len b k) here
range_split a (suc m) k =
    let count : suc m + k ≡ suc (m + k) = omega arith in
    let place : (a + 1) + m ≡ a + suc m = omega arith in
    ap (range_with_len a) count ∙ ap (λ ks. a ∷ ks) (range_split (a + 1) m k ∙ ap (λ (b : ℕ). range_with_len (a + 1) m ++ range_with_len b k) place)

module _ {X : Type 0} (p : X → Bool) where
  -- a last item passes the test, or doesn't
  pub last_in : (xs : List X) (x : X) → p x ≡ true → filter p (xs ++ x ∷ []) ≡ filter p xs ++ x ∷ []
  last_in xs x is = filter-append p xs (x ∷ []) ∙ ap (λ b. filter p xs ++ cond b (x ∷ []) []) is

  pub last_out : (xs : List X) (x : X) → p x ≡ false → filter p (xs ++ x ∷ []) ≡ filter p xs
  last_out xs x is = filter-append p xs (x ∷ []) ∙ ap (λ b. filter p xs ++ cond b (x ∷ []) []) is ∙ append-nil (filter p xs)

-- Slots

-- a value in a slot below a number adds no slot past it
pub within_slots : {V : Type 0} (slots : List (Option V)) (slot : ℕ) (v : V) (count : ℕ) → slot < count → length slots ≤ count →
    length (with_slot slots slot v) ≤ count
within_slots slots slot v count below few = simp (length-set, length-append, length-replicate) (omega (arith, below, few))
