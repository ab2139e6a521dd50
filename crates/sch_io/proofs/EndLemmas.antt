-- Ends that reads tell.
use Rattle.std.proofs.Common.{◌≡◌, ℕ, ◌==◌, ◌<◌, if◌then◌else◌, List, [], ◌∷◌, ◌++◌, Result, Ok, Err, refl, sym, ap, ap₂, ◌∙◌, arith}
use Rattle.std.proofs.lemmas.Bool.Decides.{nat_tests}
use Rattle.sch_io.specs.Ends.{last_of, told_end, ends_after, ends_of_reading, ends_of_rest}

-- the name that was put last is the last one
last_of_pushed : (names : List (List ℕ)) (name : List ℕ) → last_of (names ++ name ∷ []) ≡ name ∷ []
last_of_pushed [] name = refl
last_of_pushed (first ∷ []) name = refl
last_of_pushed (first ∷ next ∷ names) name = last_of_pushed (next ∷ names) name

-- the rest of a file that was just opened is the whole of it
pub rest_is_whole : {T E : Type 0} (result : Result T E) (name : List ℕ) (before opened ends told now : List (List ℕ)) → opened ≡ before ++ name ∷ [] → told ≡ ends →
    now ≡ ends_of_rest result opened told → now ≡ ends_of_reading result name ends
rest_is_whole (Ok bytes) name before opened ends told now noted same rest =
    rest ∙ ap₂ (λ (o e : List (List ℕ)). told_end o e) noted same ∙ ap (λ (l : List (List ℕ)). ends ++ l) (last_of_pushed before name)
rest_is_whole (Err error) name before opened ends told now noted same rest = rest ∙ same

-- a read that gave bytes told no end
pub unended : (n : ℕ) (opened before : List (List ℕ)) → 0 < n → (if n == 0 then told_end opened before else before) ≡ before
unended n opened before some = grind (arith, nat_tests)
