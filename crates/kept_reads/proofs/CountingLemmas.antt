-- How many numbers in a row pass a test.
use Rattle.std.proofs.Common.{◌≡◌, ◌∙◌, ℕ, ◌+◌, zero, suc, Bool, true, false, cond, List, [], ◌∷◌, ◌++◌, sym, ap, arith, add-zero}
use Rattle.std.proofs.lemmas.List.Sums.{sum_by_push}
use Rattle.std.specs.List.{count_by, range_with_len, sum_by}

-- Numbers in a row

-- one number more at the end
range_push : (a n : ℕ) → range_with_len a (suc n) ≡ range_with_len a n ++ (a + n) ∷ []
range_push a zero = let e : a ≡ a + 0 = omega arith in ap (λ (k : ℕ). k ∷ []) e
range_push a (suc n) =
    let e : (a + 1) + n ≡ a + suc n = omega arith in
    ap (λ (ks : List ℕ). a ∷ ks) (range_push (a + 1) n ∙ ap (λ (k : ℕ). range_with_len (a + 1) n ++ k ∷ []) e)

pub sum_more : (f : ℕ → ℕ) (n : ℕ) → sum_by f (range_with_len 0 (n + 1)) ≡ sum_by f (range_with_len 0 n) + f n
sum_more f n =
    let next : n + 1 ≡ suc n = omega arith in
    let place : 0 + n ≡ n = omega arith in
    ap (λ (k : ℕ). sum_by f (range_with_len 0 k)) next ∙ ap (sum_by f) (range_push 0 n) ∙ sum_by_push f (range_with_len 0 n) (0 + n)
    ∙ ap (λ (k : ℕ). sum_by f (range_with_len 0 n) + f k) place

-- one number more, which passes or not
count_more : (p : ℕ → Bool) (n : ℕ) (b : Bool) → p n ≡ b → count_by p (range_with_len 0 (n + 1)) ≡ count_by p (range_with_len 0 n) + cond b 1 0
count_more p n b is = sum_more (λ (k : ℕ). cond (p k) 1 0) n ∙ ap (λ (b : Bool). count_by p (range_with_len 0 n) + cond b 1 0) is

pub count_one : (p : ℕ → Bool) (n old new : ℕ) → p n ≡ true → old ≡ count_by p (range_with_len 0 n) → new ≡ old + 1 →
    new ≡ count_by p (range_with_len 0 (n + 1))
count_one p n old new passes so_far is = is ∙ ap (λ (k : ℕ). k + 1) so_far ∙ sym (count_more p n true passes)

pub count_none : (p : ℕ → Bool) (n old new : ℕ) → p n ≡ false → old ≡ count_by p (range_with_len 0 n) → new ≡ old →
    new ≡ count_by p (range_with_len 0 (n + 1))
count_none p n old new fails so_far is = is ∙ so_far ∙ sym (add-zero (count_by p (range_with_len 0 n))) ∙ sym (count_more p n false fails)
