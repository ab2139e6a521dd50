-- Attributes and items, one after another.
use Rattle.std.proofs.Common.{◌≡◌, ℕ, ◌+◌, ◌<◌, List, [], ◌∷◌, ◌++◌, Option, None, Some, map, take, length, append-nil, slice_index_or, refl, ap, ◌∙◌}
use Rattle.std.specs.List.{flat_map}
use Rattle.std.proofs.lemmas.Grind.{flat_map-append}
use Rattle.sch_base.proofs.Lists.{take-next}
use Rattle.sch_flat.specs.declared.given.Given.{Given}
use Rattle.sch_flat.specs.FlatDocument.{only_given}
use Rattle.sch_flat.specs.inner.Given.{seen}

only_given-append : (xs ys : List Given) → only_given (map seen (xs ++ ys)) ≡ only_given (map seen xs) ++ only_given (map seen ys)
only_given-append [] ys = refl
only_given-append (x ∷ xs) ys = by (seen x) (only_given-append xs ys)
  where
    by : (p : List ℕ × Option (List ℕ)) → only_given (map seen (xs ++ ys)) ≡ only_given (map seen xs) ++ only_given (map seen ys) →
        only_given (p ∷ map seen (xs ++ ys)) ≡ only_given (p ∷ map seen xs) ++ only_given (map seen ys)
    by (name, None) h = h
    by (name, Some value) h = ap (λ l. record { name = name; value = value } ∷ l) h

-- one attribute more
pub only_given_next : (xs : List Given) (i : ℕ) (x : Given) → x ≡ slice_index_or xs i x → i < length xs →
    only_given (map seen (take (i + 1) xs)) ≡ only_given (map seen (take i xs)) ++ only_given (seen x ∷ [])
only_given_next xs i x is less =
    ap (λ l. only_given (map seen l)) (take-next xs i x is less) ∙ only_given-append (take i xs) (x ∷ [])

-- one item more
pub flat_map_next : {A B : Type 0} (f : A → List B) (xs : List A) (i : ℕ) (x : A) → x ≡ slice_index_or xs i x → i < length xs →
    flat_map f (take (i + 1) xs) ≡ flat_map f (take i xs) ++ f x
flat_map_next f xs i x is less =
    ap (flat_map f) (take-next xs i x is less)
    ∙ flat_map-append f (take i xs) (x ∷ [])
    ∙ ap (λ l. flat_map f (take i xs) ++ l) (append-nil (f x))
