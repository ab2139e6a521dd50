-- What holds of each element of a list, and of parts of it.
use Rattle.std.proofs.Common.{◌≡◌, ℕ, Bool, true, false, cond, List, [], ◌∷◌, ◌++◌}
use Rattle.std.specs.Prelude.{filter}
use Rattle.std.specs.List.{AllByRecursion as Each}
use Rattle.doc_tree.specs.Lists.{mem}
use Rattle.doc_tree.proofs.ListLemmas.{mem-head, mem-tail}
use Rattle.doc_axes.specs.Axes.{backwards}

module _ {X : Type 0} (P : X → Type 0) where
  pub each-front : (xs ys : List X) → Each P (xs ++ ys) → Each P xs
  each-front [] ys h = tt
  each-front (x ∷ xs) ys h = (h.0, each-front xs ys h.1)

  pub each-back : (xs ys : List X) → Each P (xs ++ ys) → Each P ys
  each-back [] ys h = h
  each-back (x ∷ xs) ys h = each-back xs ys h.1

  pub each-append : (xs ys : List X) → Each P xs → Each P ys → Each P (xs ++ ys)
  each-append [] ys h k = k
  each-append (x ∷ xs) ys h k = (h.0, each-append xs ys h.1 k)

  pub each-cond : (b : Bool) (xs ys : List X) → Each P xs → Each P ys → Each P (cond b xs ys)
  each-cond true xs ys h k = h
  each-cond false xs ys h k = k

  pub each-all : ((x : X) → P x) → (xs : List X) → Each P xs
  each-all all [] = tt
  each-all all (x ∷ xs) = (all x, each-all all xs)

module _ (P : ℕ → Type 0) where
  pub each-filter : (p : ℕ → Bool) (xs : List ℕ) → Each P xs → Each P (filter p xs)
  each-filter p [] h = tt
  each-filter p (x ∷ xs) h =
      elim (p x) as (λ b. Each P (cond b (x ∷ filter p xs) (filter p xs))) [ true ↦ (h.0, each-filter p xs h.1) | false ↦ each-filter p xs h.1 ]

  pub each-backwards : (xs : List ℕ) → Each P xs → Each P (backwards xs)
  each-backwards [] h = tt
  each-backwards (x ∷ xs) h = each-append P (backwards xs) (x ∷ []) (each-backwards xs h.1) (h.0, tt)

  pub each-listed : (xs : List ℕ) → ((x : ℕ) → mem x xs ≡ true → P x) → Each P xs
  each-listed [] all = tt
  each-listed (x ∷ xs) all = (all x (mem-head x xs), each-listed xs (λ y h. all y (mem-tail y x xs h)))
