-- Texts made of pieces, one for each number of a range.
use Rattle.std.proofs.Common.{◌≡◌, ◌∙◌, ℕ, zero, suc, ◌+◌, List, ◌++◌, append_assoc, append-nil, sym, ap, arith}
use Rattle.std.specs.List.{flat_map, range_with_len}

-- a range with one number more
range-flat : (f : ℕ → List ℕ) (a n j : ℕ) → a + n ≡ j → flat_map f (range_with_len a (suc n)) ≡ flat_map f (range_with_len a n) ++ f j
range-flat f a zero j is =
    let same : a ≡ j = omega (arith, is) in
    append-nil (f a) ∙ ap f same
range-flat f a (suc n) j is =
    ap (λ (rest : List ℕ). f a ++ rest) (range-flat f (a + 1) n j (omega (arith, is))) ∙ sym (append_assoc (f a) (flat_map f (range_with_len (a + 1) n)) (f j))

-- the pieces behind a text, with one more
pub pieces-next : (f : ℕ → List ℕ) (before old new : List ℕ) (n : ℕ) → old ≡ before ++ flat_map f (range_with_len 1 n) → new ≡ old ++ f (n + 1) →
    new ≡ before ++ flat_map f (range_with_len 1 (n + 1))
pieces-next f before old new n so_far is =
    let next : 1 + n ≡ n + 1 = omega arith in
    let later : suc n ≡ n + 1 = omega arith in
    is
    ∙ ap (λ (text : List ℕ). text ++ f (n + 1)) so_far
    ∙ append_assoc before (flat_map f (range_with_len 1 n)) (f (n + 1))
    ∙ ap (λ (pieces : List ℕ). before ++ pieces) (sym (range-flat f 1 n (n + 1) next) ∙ ap (λ (k : ℕ). flat_map f (range_with_len 1 k)) later)

-- all pieces, where the range was gone through
pub pieces-all : (f : ℕ → List ℕ) (before text : List ℕ) (n all : ℕ) → text ≡ before ++ flat_map f (range_with_len 1 n) → n ≡ all →
    text ≡ before ++ flat_map f (range_with_len 1 all)
pieces-all f before text n all so_far is = so_far ∙ ap (λ (k : ℕ). before ++ flat_map f (range_with_len 1 k)) is
