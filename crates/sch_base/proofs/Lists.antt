-- Lemmas on lists that the crates above share: the items before a place, the one there and those after it, as a loop
-- over a list meets them.
--
-- std has the others: `and_parts`, `or_parts`, `or_right`, `and_right`, `lt-leb` and `cases_eq` (`lemmas.Bool`),
-- `length-map`, `drop_all` and `get_or_default` (`lemmas.List`), `split_at`, `drop-cons` and `take-suc` (`Math.Seq`),
-- `list_any-append` (`lemmas.List.Folds`), `flat_map-append` and `reverse_onto` (`lemmas.Grind`).
use Rattle.std.proofs.Common.{◌≡◌, ℕ, suc, ◌+◌, ◌<◌, Bool, true, false, List, [], ◌∷◌, ◌++◌, length, take, drop, reverse, slice_index_or, refl, ap, sym, ◌∙◌, add-one, append-nil, append_assoc, arith}
use Rattle.std.specs.List.{flat_map, list_any, position_or_len}
use Rattle.std.proofs.Math.Seq.{split_at, take-suc, drop-cons}
use Rattle.std.proofs.lemmas.Grind.{common_steps, flat_map-append, reverse_onto}

-- where the first item that passes is past the end, none passes
pub none_passes : {X : Type 0} (p : X → Bool) (xs : List X) → position_or_len p xs ≡ length xs → list_any p xs ≡ false
none_passes p [] e = refl
none_passes p (x ∷ xs) e = grind (arith, common_steps, none_passes p xs)

-- where it is not past the end, one passes
pub one_passes : {X : Type 0} (p : X → Bool) (xs : List X) → position_or_len p xs < length xs → list_any p xs ≡ true
one_passes p [] less = absurd (omega arith)
one_passes p (x ∷ xs) less = grind (arith, common_steps, one_passes p xs)

-- the first item goes to the end
pub reverse-cons : {X : Type 0} (x : X) (xs : List X) → reverse (x ∷ xs) ≡ reverse xs ++ x ∷ []
reverse-cons x xs = reverse_onto xs x []

module _ {X : Type 0} (xs : List X) (i : ℕ) (x : X) where
  -- the items before a place and the one there
  pub take-next : x ≡ slice_index_or xs i x → i < length xs → take (i + 1) xs ≡ take i xs ++ x ∷ []
  take-next is less =
      ap (λ n. take n xs) (add-one i) ∙ (take-suc xs i x less ∙ ap (λ (y : X). take i xs ++ y ∷ []) (sym is))

  -- the items from a place on, the first one apart
  pub drop-at : x ≡ slice_index_or xs i x → i < length xs → drop i xs ≡ x ∷ drop (i + 1) xs
  drop-at is less =
      drop-cons xs i x less ∙ (ap (λ (y : X). y ∷ drop (suc i) xs) (sym is) ∙ ap (λ n. x ∷ drop n xs) (sym (add-one i)))

  -- the items before a place, the one there, and those after it
  pub cut-at : x ≡ slice_index_or xs i x → i < length xs → xs ≡ take i xs ++ x ∷ drop (suc i) xs
  cut-at is less = split_at xs i x less ∙ ap (λ (y : X). take i xs ++ y ∷ drop (suc i) xs) (sym is)

-- what the items give that the items give
pub flat_map-flat : {X Y Z : Type 0} (f : Y → List Z) (g : X → List Y) (xs : List X) →
    flat_map f (flat_map g xs) ≡ flat_map (λ x. flat_map f (g x)) xs
flat_map-flat f g [] = refl
flat_map-flat f g (x ∷ xs) =
    flat_map-append f (g x) (flat_map g xs) ∙ ap (λ l. flat_map f (g x) ++ l) (flat_map-flat f g xs)

module _ {X Y : Type 0} (f : X → List Y) (xs : List X) (i : ℕ) (x : X) where
  -- what the items before a place give, with one item more
  pub flat_map-next : x ≡ slice_index_or xs i x → i < length xs → flat_map f (take (i + 1) xs) ≡ flat_map f (take i xs) ++ f x
  flat_map-next is less =
      ap (flat_map f) (take-next xs i x is less)
      ∙ flat_map-append f (take i xs) (x ∷ [])
      ∙ ap (λ l. flat_map f (take i xs) ++ l) (append-nil (f x))

  -- what the items before a place give, the item there, and those after it
  pub flat_map-cut : x ≡ slice_index_or xs i x → i < length xs → flat_map f xs ≡ (flat_map f (take i xs) ++ f x) ++ flat_map f (drop (suc i) xs)
  flat_map-cut is less =
      ap (flat_map f) (cut-at xs i x is less)
      ∙ flat_map-append f (take i xs) (x ∷ drop (suc i) xs)
      ∙ sym (append_assoc (flat_map f (take i xs)) (f x) (flat_map f (drop (suc i) xs)))
