-- Texts read as numbers: what stands at the front, and the value of digits.
use Rattle.std.proofs.Common.{◌≡◌, ℕ, ◌+◌, ◌-◌, ◌*◌, ◌<◌, ◌≤◌, suc, zero, Bool, true, false, cond, eqb, ◌&&◌, List, [], ◌∷◌, ◌++◌, length, take, drop, get_or, drop-cons, fold, None, Some, Ok, Err, refl, sym, ap, ap₂, ◌∙◌, arith, nat_le, append-nil, append_assoc}
use Rattle.std.specs.Prelude.{unsigned_abs}
use Rattle.std.specs.List.{list_all}
use Rattle.std.proofs.lemmas.List.{take_all, drop_all, take_more}
use Rattle.std.proofs.lemmas.Bool.Decides.{nat_tests}
use Rattle.std.proofs.lemmas.Bool.{leb-true}
use Rattle.xp_values.specs.declared.numbers.Num.TheVariants.{Whole}
use Rattle.xp_tree.specs.declared.numbers.TheConstants.{MAX_WHOLE}
use Rattle.xp_values.specs.declared.values.EvalFault.TheVariants.{NumberRange}
use Rattle.xp_values.specs.Numbers.{whole_number}
use Rattle.xp_tree.specs.Decimals.{decimal_value}
use Rattle.xp_values.specs.Numerals.{front, past, bounded, signed, are_zeros, number_written}

-- the first bytes pass a test, up to a place
pub record Passed (test : ℕ → Bool) (xs : List ℕ) (i : ℕ) : Type 0 where
  pub front_is : front test xs ≡ take i xs ++ front test (drop i xs)
  pub past_is : past test xs ≡ past test (drop i xs)

pub passed_none : (test : ℕ → Bool) (xs : List ℕ) → Passed test xs 0
passed_none test xs = record { front_is = refl; past_is = refl }

module _ (test : ℕ → Bool) (xs : List ℕ) (i : ℕ) (p : Passed test xs i) where
  -- all bytes pass
  pub passed_all : length xs ≤ i → (xs ≡ front test xs) × ([] ≡ past test xs)
  passed_all least =
      let none : drop i xs ≡ [] = drop_all i xs least in
      (sym (p.front_is ∙ ap₂ (λ a b. a ++ front test b) (take_all i xs least) none ∙ append-nil xs), sym (p.past_is ∙ ap (past test) none))

  module _ (b : ℕ) (less : i < length xs) (here : b ≡ get_or xs i 0) where
    rest_is : drop i xs ≡ b ∷ drop (i + 1) xs
    rest_is =
        let next : suc i ≡ i + 1 = omega arith in
        drop-cons xs i 0 less ∙ ap₂ (λ x n. x ∷ drop n xs) (sym here) next

    -- the byte at the place passes
    pub passed_more : test b ≡ true → Passed test xs (i + 1)
    passed_more passes =
        let more : take (i + 1) xs ≡ take i xs ++ b ∷ [] = take_more xs i 0 less ∙ ap (λ k. take i xs ++ k ∷ []) (sym here) in
        let kept : front test (b ∷ drop (i + 1) xs) ≡ b ∷ front test (drop (i + 1) xs) = rw passes refl in
        let passed : past test (b ∷ drop (i + 1) xs) ≡ past test (drop (i + 1) xs) = rw passes refl in
        record {
          front_is =
              p.front_is
              ∙ (ap (λ l. take i xs ++ l) (ap (front test) rest_is ∙ kept)
              ∙ sym (ap (λ l. l ++ front test (drop (i + 1) xs)) more ∙ simp append_assoc));
          past_is = p.past_is ∙ (ap (past test) rest_is ∙ passed);
        }

    -- or it doesn't, and nothing after it counts
    pub passed_front : test b ≡ false → take i xs ≡ front test xs
    passed_front fails =
        let none : front test (b ∷ drop (i + 1) xs) ≡ [] = rw fails refl in
        sym (p.front_is ∙ (ap (λ l. take i xs ++ l) (ap (front test) rest_is ∙ none) ∙ append-nil (take i xs)))

    pub passed_past : test b ≡ false → drop i xs ≡ past test xs
    passed_past fails =
        let all : past test (b ∷ drop (i + 1) xs) ≡ b ∷ drop (i + 1) xs = rw fails refl in
        sym (p.past_is ∙ (ap (past test) rest_is ∙ (all ∙ sym rest_is)))

-- nothing stands after the front where all bytes pass
pub all_past : (test : ℕ → Bool) (xs : List ℕ) → eqb (length (past test xs)) 0 ≡ list_all test xs
all_past test [] = refl
all_past test (x ∷ xs) = by (test x) (all_past test xs)
  where
    by : (b : Bool) → eqb (length (past test xs)) 0 ≡ list_all test xs → eqb (length (cond b (past test xs) (x ∷ xs))) 0 ≡ (b && list_all test xs)
    by true rest = rest
    by false rest = grind (arith, nat_tests)

abbrev with_digit : ℕ → ℕ → ℕ
with_digit value digit = value * 10 + (digit - 48)

value-grows : (value : ℕ) (digits : List ℕ) → value ≤ fold with_digit value digits
value-grows value [] = omega arith
value-grows value (d ∷ digits) = omega (arith, value-grows (with_digit value d) digits)

value-front : (value k : ℕ) (digits : List ℕ) → fold with_digit value (take k digits) ≤ fold with_digit value digits
value-front value zero digits = value-grows value digits
value-front value (suc k) [] = omega arith
value-front value (suc k) (d ∷ digits) = value-front (with_digit value d) k digits

-- digits of whose front the value is past the greatest number
pub past_bound : (k : ℕ) (digits : List ℕ) → MAX_WHOLE < decimal_value (take k digits) → None ≡ bounded (decimal_value digits)
past_bound k digits h = by (nat_le (decimal_value digits) MAX_WHOLE) refl
  where
    by : (b : Bool) → nat_le (decimal_value digits) MAX_WHOLE ≡ b → None ≡ cond b (Some (decimal_value digits)) None
    by true e = absurd (let least : decimal_value digits ≤ MAX_WHOLE = leb-true (decimal_value digits) MAX_WHOLE e in omega (arith, value-front 0 k digits, h))
    by false e = refl

size-signed : (negative : Bool) (value : ℕ) → unsigned_abs (signed negative value) ≡ value
size-signed true zero = refl
size-signed true (suc value) = refl
size-signed false value = refl

pub bounded_some : (value v : ℕ) → bounded value ≡ Some v → (v ≡ value) × (v ≤ MAX_WHOLE)
bounded_some value v h = by (nat_le value MAX_WHOLE) refl h
  where
    by : (b : Bool) → nat_le value MAX_WHOLE ≡ b → cond b (Some value) None ≡ Some v → (v ≡ value) × (v ≤ MAX_WHOLE)
    by false e h = absurd (cc)
    by true e h = let same : v ≡ value = (cc) in (same, rw same (leb-true value MAX_WHOLE e))

pub written_bounded : (negative : Bool) (digits fraction : List ℕ) (v : ℕ) → are_zeros fraction ≡ true → bounded (decimal_value digits) ≡ Some v →
    whole_number (signed negative v) ≡ number_written negative digits fraction
written_bounded negative digits fraction v zeros h = rw (zeros, (bounded_some (decimal_value digits) v h).0) refl

pub written_past : (negative : Bool) (digits fraction : List ℕ) → are_zeros fraction ≡ true → bounded (decimal_value digits) ≡ None →
    Err NumberRange ≡ number_written negative digits fraction
written_past negative digits fraction zeros h = rw (zeros, size-signed negative (decimal_value digits)) (by (nat_le (decimal_value digits) MAX_WHOLE) h)
  where
    by : (b : Bool) → cond b (Some (decimal_value digits)) None ≡ None → Err NumberRange ≡ cond b (Ok (Whole (signed negative (decimal_value digits)))) (Err NumberRange)
    by true h = absurd (cc)
    by false h = refl
