-- A list walked from the left.
use Rattle.std.proofs.Common.{◌≡◌, ℕ, ◌+◌, ◌<◌, ◌≤◌, List, [], ◌∷◌, ◌++◌, map, length, take, slice_index_or, refl, sym, ap, ◌∙◌, arith, add-one, append-nil}
use Rattle.std.specs.List.{flat_map}
use Rattle.std.proofs.Math.Seq.{take-length, take-suc}
use Rattle.std.proofs.lemmas.Grind.{flat_map-append}

-- with one item more
pub flat_map-next : {A B : Type 0} (g : A → List B) (xs : List A) (i : ℕ) (x : A) → x ≡ slice_index_or xs i x → i < length xs → flat_map g (take (i + 1) xs) ≡ flat_map g (take i xs) ++ g x
flat_map-next g xs i x is less =
    ap (flat_map g) (ap (λ (n : ℕ). take n xs) (add-one i) ∙ take-suc xs i x less)
    ∙ flat_map-append g (take i xs) (slice_index_or xs i x ∷ [])
    ∙ ap (λ l. flat_map g (take i xs) ++ l) (append-nil (g (slice_index_or xs i x)) ∙ ap g (sym is))

pub all_taken : {A : Type 0} (xs : List A) (i : ℕ) → length xs ≤ i → i ≤ length xs → take i xs ≡ xs
all_taken xs i least most = let at : i ≡ length xs = omega arith in rw at (take-length xs)

pub flat_map-one : {A B : Type 0} (g : A → B) (xs : List A) → flat_map (λ x. g x ∷ []) xs ≡ map g xs
flat_map-one g [] = refl
flat_map-one g (x ∷ xs) = ap (λ l. g x ∷ l) (flat_map-one g xs)

pub flat_map-flat : {A B C : Type 0} (f : B → List C) (g : A → List B) (xs : List A) → flat_map f (flat_map g xs) ≡ flat_map (λ x. flat_map f (g x)) xs
flat_map-flat f g [] = refl
flat_map-flat f g (x ∷ xs) = flat_map-append f (g x) (flat_map g xs) ∙ ap (λ l. flat_map f (g x) ++ l) (flat_map-flat f g xs)
