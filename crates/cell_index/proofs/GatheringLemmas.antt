-- Numbers that are wanted, gathered from hints.
use Rattle.std.proofs.Common.{◌≡◌, ◌∙◌, ℕ, suc, ◌+◌, ◌<◌, ◌≤◌, Bool, true, ◌||◌, List, [], ◌∷◌, ◌⊎◌, length, get_or, take, slice_index_or, refl, sym, ap, subst, inl, inr, arith}
use Rattle.std.proofs.lemmas.Bool.{cases_lt, or_cases, or_left, or_right}
use Rattle.std.proofs.lemmas.List.{get_or_default, take_all}
use Rattle.std.proofs.lemmas.List.Folds.{list_any_at, list_any_more}
use Rattle.std.specs.List.{Contains, list_any}
use Rattle.cell_index.specs.inner.Gathering.{Finds, Gathers}

pub nothing_contained : (n : ℕ) → Contains [] n → ⊥
nothing_contained n there = omega (arith, there.1)

-- Hints, one after another

module _ (wanted : ℕ → Bool) (hints first : List ℕ) where
  pub gathers_begin : Gathers wanted hints 0 first first
  gathers_begin = record { stays = λ n was. was; each = λ n was. inl was; all = λ k below is. absurd (omega (arith, below)) }

  -- one hint more
  pub gathers_more : (i x : ℕ) (old new : List ℕ) (is_wanted : Bool) → x ≡ slice_index_or hints i 0 → is_wanted ≡ wanted x →
      ((n : ℕ) → Contains old n → Contains new n) → ((n : ℕ) → Contains new n → Contains old n ⊎ ((n ≡ x) × (is_wanted ≡ true))) → (is_wanted ≡ true → Contains new x) →
      Gathers wanted hints i first old → Gathers wanted hints (i + 1) first new
  gathers_more i x old new is_wanted at tells stays each there so_far = record {
    stays = λ n was. stays n (so_far.stays n was);
    each = λ n found. each_one n (each n found);
    all = λ k below is. elim (cases_lt k i) [
      | inl before ↦ stays (slice_index_or hints k 0) (so_far.all k before is)
      | inr past ↦ all_one k (omega arith) is
    ];
  }
    where
      each_one : (n : ℕ) → Contains old n ⊎ ((n ≡ x) × (is_wanted ≡ true)) → Contains first n ⊎ (wanted n ≡ true)
      each_one n (inl was) = so_far.each n was
      each_one n (inr (same, is)) = inr (ap wanted same ∙ sym tells ∙ is)

      all_one : (k : ℕ) → k ≡ i → wanted (slice_index_or hints k 0) ≡ true → Contains new (slice_index_or hints k 0)
      all_one k here is =
          let same : slice_index_or hints k 0 ≡ x = ap (λ (j : ℕ). slice_index_or hints j 0) here ∙ sym at in
          subst (Contains new) (sym same) (there (tells ∙ ap wanted (sym same) ∙ is))

  -- and at last all, where each that is wanted has a hint
  pub gathers_end : (count : ℕ) (found : List ℕ) → length hints ≤ count → ((n : ℕ) → wanted n ≡ true → Contains hints n) → Gathers wanted hints count first found → Finds wanted first found
  gathers_end count found whole hinted so_far = record {
    stays = so_far.stays;
    each = so_far.each;
    all = λ n is. by n is (hinted n is);
  }
    where
      by : (n : ℕ) → wanted n ≡ true → Contains hints n → Contains found n
      by n is (k, within, at) =
          let same : slice_index_or hints k 0 ≡ n = get_or_default hints k 0 n within ∙ at in
          subst (Contains found) same (so_far.all k (omega (arith, within, whole)) (ap wanted same ∙ is))

-- What one of some asks for

module _ {X : Type 0} (test : X → ℕ → Bool) where
  pub finds_more : (xs : List X) (i : ℕ) (x : X) (first old new : List ℕ) → i < length xs → x ≡ get_or xs i x → Finds (test x) old new →
      Finds (λ (n : ℕ). list_any (λ (y : X). test y n) (take i xs)) first old → Finds (λ (n : ℕ). list_any (λ (y : X). test y n) (take (i + 1) xs)) first new
  finds_more xs i x first old new within at too so_far = record {
    stays = λ n was. too.stays n (so_far.stays n was);
    each = λ n there. each_one n (too.each n there);
    all = λ n is. all_one n (or_cases (list_any (λ (y : X). test y n) (take i xs)) (test x n) (sym (one_more n) ∙ is));
  }
    where
      one_more : (n : ℕ) → list_any (λ (y : X). test y n) (take (i + 1) xs) ≡ (list_any (λ (y : X). test y n) (take i xs) || test x n)
      one_more n = list_any_more (λ (y : X). test y n) xs i x within ∙ ap (λ (y : X). list_any (λ (z : X). test z n) (take i xs) || test y n) (sym at)

      each_before : (n : ℕ) → Contains first n ⊎ (list_any (λ (y : X). test y n) (take i xs) ≡ true) → Contains first n ⊎ (list_any (λ (y : X). test y n) (take (i + 1) xs) ≡ true)
      each_before n (inl was) = inl was
      each_before n (inr is) = inr (one_more n ∙ or_left (list_any (λ (y : X). test y n) (take i xs)) (test x n) is)

      each_one : (n : ℕ) → Contains old n ⊎ (test x n ≡ true) → Contains first n ⊎ (list_any (λ (y : X). test y n) (take (i + 1) xs) ≡ true)
      each_one n (inl was) = each_before n (so_far.each n was)
      each_one n (inr is) = inr (one_more n ∙ or_right (list_any (λ (y : X). test y n) (take i xs)) (test x n) is)

      all_one : (n : ℕ) → (list_any (λ (y : X). test y n) (take i xs) ≡ true) ⊎ (test x n ≡ true) → Contains new n
      all_one n (inl was) = too.stays n (so_far.all n was)
      all_one n (inr is) = too.all n is

  pub finds_end : (xs : List X) (i : ℕ) (first found : List ℕ) → length xs ≤ i →
      Finds (λ (n : ℕ). list_any (λ (y : X). test y n) (take i xs)) first found → Finds (λ (n : ℕ). list_any (λ (y : X). test y n) xs) first found
  finds_end xs i first found whole all = subst (λ (ys : List X). Finds (λ (n : ℕ). list_any (λ (y : X). test y n) ys) first found) (take_all i xs whole) all

-- Tests of listed numbers

pub any_here : (test : ℕ → Bool) (numbers : List ℕ) → list_any test numbers ≡ true → (n : ℕ) × Contains numbers n × (test n ≡ true)
any_here test [] is = absurd (cc)
any_here test (x ∷ numbers) is = elim (or_cases (test x) (list_any test numbers) is) [
  | inl here ↦ (x, (0, omega arith, refl), here)
  | inr there ↦ behind (any_here test numbers there)
]
  where
    behind : (n : ℕ) × Contains numbers n × (test n ≡ true) → (n : ℕ) × Contains (x ∷ numbers) n × (test n ≡ true)
    behind (n, (k, within, at), passes) = (n, (suc k, omega (arith, within), at), passes)

pub here_any : (test : ℕ → Bool) (numbers : List ℕ) (n : ℕ) → Contains numbers n → test n ≡ true → list_any test numbers ≡ true
here_any test numbers n (k, within, at) passes = list_any_at test numbers k n within (ap test at ∙ passes)
