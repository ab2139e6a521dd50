-- Lists that are walked, and what is found in them.
use Rattle.std.proofs.Common.{◌≡◌, ℕ, ◌<◌, ◌≤◌, Bool, true, false, cond, List, [], ◌∷◌, length, take, slice_index_or, Option, None, Some, find, sym, subst, arith}
use Rattle.std.proofs.Math.Seq.{take-length}
use Rattle.doc_tree.specs.Lists.{mem}
use Rattle.doc_tree.proofs.ListLemmas.{mem-get, mem-head, mem-tail}

pub mem-at : (xs : List ℕ) (i x : ℕ) → x ≡ slice_index_or xs i x → i < length xs → mem x xs ≡ true
mem-at xs i x is less = subst (λ n. mem n xs ≡ true) (sym is) (mem-get xs i x less)

pub all_taken : {A : Type 0} (xs : List A) (i : ℕ) → length xs ≤ i → i ≤ length xs → take i xs ≡ xs
all_taken xs i least most = let at : i ≡ length xs = omega arith in rw at (take-length xs)

-- what is found in a list stands in it
pub found-mem : (p : ℕ → Bool) (xs : List ℕ) (x : ℕ) → find p xs ≡ Some x → mem x xs ≡ true
found-mem p [] x h = absurd (cc)
found-mem p (y ∷ xs) x h = found-cases (p y) h (found-mem p xs x)
  where
    found-cases : (b : Bool) → cond b (Some y) (find p xs) ≡ Some x → (find p xs ≡ Some x → mem x xs ≡ true) → mem x (y ∷ xs) ≡ true
    found-cases true h rest = let same : x ≡ y = cc in subst (λ k. mem x (k ∷ xs) ≡ true) same (mem-head x xs)
    found-cases false h rest = mem-tail x y xs (rest h)
