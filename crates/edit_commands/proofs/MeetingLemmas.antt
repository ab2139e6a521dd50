-- The texts on both sides of a node among some kids, found by looking at three kids at a time.
use Rattle.std.proofs.Common.{◌≡◌, ℕ, ◌+◌, ◌-◌, ◌<◌, ◌≤◌, suc, zero, Bool, true, false, ◌&&◌, List, [], ◌∷◌, length, drop, Option, None, Some, refl, sym, ap, ◌∙◌, subst, arith, eqb, eq-eqb, drop-cons}
use Rattle.std.specs.Prelude.{◌==◌, if◌then◌else◌, slice_index_or}
use Rattle.std.proofs.lemmas.List.{length-drop}
use Rattle.doc_tree.specs.Changes.{Meeting, meeting}
use Rattle.doc_tree.specs.Kinds.{is_text}
use Rattle.doc_tree.specs.Table.{Table, kind_of}
use Rattle.edit_commands.specs.Touched.{left_of}

abbrev pub at : List ℕ → ℕ → ℕ
at ks i = slice_index_or ks i 0

-- a kid that is there is the same whatever stands for one that is not
pub kid-there : (ks : List ℕ) (i k : ℕ) → i < length ks → k ≡ slice_index_or ks i k → k ≡ at ks i
kid-there ks i k low h = h ∙ by ks i low
  where
    by : (ks : List ℕ) (i : ℕ) → i < length ks → slice_index_or ks i k ≡ at ks i
    by [] i h = absurd (omega (arith, h))
    by (j ∷ ks) zero h = refl
    by (j ∷ ks) (suc i) h = by ks i (omega (arith, h))

-- two kids, and three, from a place on
two : (ks : List ℕ) (i : ℕ) → 2 ≤ i → i < length ks → drop (i - 1) ks ≡ at ks (i - 1) ∷ at ks i ∷ drop (suc i) ks
two ks i some low =
    drop-cons ks (i - 1) 0 (omega (arith, low))
    ∙ ap (λ l. at ks (i - 1) ∷ l) (ap (λ j. drop j ks) (let e : suc (i - 1) ≡ i = omega (arith, some) in e) ∙ drop-cons ks i 0 low)

three : (ks : List ℕ) (i : ℕ) → 2 ≤ i → i < length ks → drop (i - 2) ks ≡ at ks (i - 2) ∷ at ks (i - 1) ∷ at ks i ∷ drop (suc i) ks
three ks i some low =
    drop-cons ks (i - 2) 0 (omega (arith, low))
    ∙ ap (λ l. at ks (i - 2) ∷ l) (ap (λ j. drop j ks) (let e : suc (i - 2) ≡ i - 1 = omega (arith, some) in e) ∙ two ks i some low)

module _ (T : Table) (n : ℕ) (ks : List ℕ) (i : ℕ) (some : 2 ≤ i) (low : i < length ks) (so_far : meeting T n (drop (i - 2) ks) ≡ meeting T n ks) where
  abbrev pub here : Option Meeting
  here = if is_text (kind_of T (at ks (i - 2))) && is_text (kind_of T (at ks i)) then Some (record { left = at ks (i - 2); right = at ks i }) else None

  looked : (if at ks (i - 1) == n then here else meeting T n (at ks (i - 1) ∷ at ks i ∷ drop (suc i) ks)) ≡ meeting T n ks
  looked = sym (ap (meeting T n) (three ks i some low)) ∙ so_far

  -- the node stands here: the texts on both sides, and the left one
  pub both-found : at ks (i - 1) ≡ n → here ≡ meeting T n ks
  both-found is = subst (λ b. (if b then here else meeting T n (at ks (i - 1) ∷ at ks i ∷ drop (suc i) ks)) ≡ meeting T n ks) (eq-eqb (at ks (i - 1)) n is) looked

  pub found : at ks (i - 1) ≡ n → (if is_text (kind_of T (at ks (i - 2))) && is_text (kind_of T (at ks i)) then Some (at ks (i - 2)) else None) ≡ left_of (meeting T n ks)
  found is = by (is_text (kind_of T (at ks (i - 2))) && is_text (kind_of T (at ks i))) ∙ ap left_of (both-found is)
    where
      by : (b : Bool) → (if b then Some (at ks (i - 2)) else None) ≡ left_of (if b then Some (record { left = at ks (i - 2); right = at ks i }) else None)
      by true = refl
      by false = refl

  -- it stands further on
  pub further : eqb (at ks (i - 1)) n ≡ false → meeting T n (drop (i + 1 - 2) ks) ≡ meeting T n ks
  further other =
      ap (λ j. meeting T n (drop j ks)) (let e : i + 1 - 2 ≡ i - 1 = omega (arith, some) in e)
      ∙ (ap (meeting T n) (two ks i some low)
      ∙ subst (λ b. (if b then here else meeting T n (at ks (i - 1) ∷ at ks i ∷ drop (suc i) ks)) ≡ meeting T n ks) other looked)

-- where no three are left no texts meet
pub none-left : (T : Table) (n i : ℕ) (ks : List ℕ) → 2 ≤ i → length ks ≤ i → meeting T n (drop (i - 2) ks) ≡ None
none-left T n i ks some high = by (drop (i - 2) ks) (omega (arith, length-drop (i - 2) ks))
  where
    by : (ks : List ℕ) → length ks ≤ 2 → meeting T n ks ≡ None
    by [] h = refl
    by (k ∷ []) h = refl
    by (k ∷ l ∷ []) h = refl
    by (k ∷ l ∷ m ∷ ks) h = absurd (omega (arith, h))
