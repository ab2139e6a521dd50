-- Ids, one after another.
use Rattle.std.proofs.Common.{◌≡◌, ℕ, ◌+◌, ◌<◌, List, [], ◌∷◌, ◌++◌, take, length, slice_index_or, refl, sym, ap, ◌∙◌, append_assoc}
use Rattle.std.specs.Prelude.{codes}
use Rattle.sch_base.proofs.Lists.{take-next}
use Rattle.sch_texts.specs.Ids.{spaced}

spaced-append : (id x : List ℕ) (ids : List (List ℕ)) → spaced (id ∷ (ids ++ x ∷ [])) ≡ spaced (id ∷ ids) ++ (codes " " ++ x)
spaced-append id x [] = refl
spaced-append id x (next ∷ ids) =
    ap (λ l. id ++ (codes " " ++ l)) (spaced-append next x ids)
    ∙ sym (append_assoc id (codes " " ++ spaced (next ∷ ids)) (codes " " ++ x))

-- one id more
pub spaced_next : (first : List ℕ) (ids : List (List ℕ)) (i : ℕ) (x : List ℕ) → x ≡ slice_index_or ids i x → i < length ids →
    spaced (first ∷ take (i + 1) ids) ≡ spaced (first ∷ take i ids) ++ (codes " " ++ x)
spaced_next first ids i x is less =
    ap (λ l. spaced (first ∷ l)) (take-next ids i x is less) ∙ spaced-append first x (take i ids)
