-- Words that are taken one after another.
use Rattle.std.proofs.Common.{◌≡◌, ℕ, zero, suc, ◌+◌, List, [], ◌∷◌, ◌++◌, None, Some, slice_get, take, add-one, sym, subst}
use Rattle.std.specs.List.{AllZip}

-- one more word
more : (R : List ℕ → List ℕ → Type 0) (all : List (List ℕ)) (n : ℕ) (taken : List (List ℕ)) (bytes word : List ℕ) → slice_get all n ≡ Some bytes → R bytes word →
    AllZip R (take n all) taken → AllZip R (take (suc n) all) (taken ++ word ∷ [])
more R [] zero taken bytes word is holds zipped = cc
more R [] (suc n) taken bytes word is holds zipped = cc
more R (first ∷ all) zero [] bytes word is holds zipped = (subst (λ (b : List ℕ). R b word) (let same : Some bytes ≡ Some first = sym is in cc) holds, tt)
more R (first ∷ all) zero (w ∷ taken) bytes word is holds zipped = absurd zipped
more R (first ∷ all) (suc n) [] bytes word is holds zipped = absurd zipped
more R (first ∷ all) (suc n) (w ∷ taken) bytes word is holds zipped = (zipped.0, more R all n taken bytes word is holds zipped.1)

pub one_more_word : (R : List ℕ → List ℕ → Type 0) (all : List (List ℕ)) (n : ℕ) (taken : List (List ℕ)) (bytes word : List ℕ) → slice_get all n ≡ Some bytes → R bytes word →
    AllZip R (take n all) taken → AllZip R (take (n + 1) all) (taken ++ word ∷ [])
one_more_word R all n taken bytes word is holds zipped =
    subst (λ (m : ℕ). AllZip R (take m all) (taken ++ word ∷ [])) (sym (add-one n)) (more R all n taken bytes word is holds zipped)

-- no word is left
pub no_more_words : (R : List ℕ → List ℕ → Type 0) (all : List (List ℕ)) (n : ℕ) (taken : List (List ℕ)) → slice_get all n ≡ None → AllZip R (take n all) taken → AllZip R all taken
no_more_words R [] zero taken none zipped = zipped
no_more_words R [] (suc n) taken none zipped = zipped
no_more_words R (first ∷ all) zero taken none zipped = cc
no_more_words R (first ∷ all) (suc n) [] none zipped = absurd zipped
no_more_words R (first ∷ all) (suc n) (w ∷ taken) none zipped = (zipped.0, no_more_words R all n taken none zipped.1)
