-- The ends of files that reads have told.
use Rattle.std.specs.Prelude.{ℕ, ◌==◌, if◌then◌else◌, List, [], ◌∷◌, ◌++◌, Result, Ok, Err}

-- the last of some names, where there are any
abbrev pub last_of : List (List ℕ) → List (List ℕ)
last_of [] = []
last_of (name ∷ []) = name ∷ []
last_of (name ∷ next ∷ names) = last_of (next ∷ names)

-- the end of the file that was opened last is told
abbrev pub told_end : List (List ℕ) → List (List ℕ) → List (List ℕ)
told_end opened ends = ends ++ last_of opened

-- the ends that are told after a read: an answer of 0 tells that of the file that was opened last
abbrev pub ends_after : {E : Type 0} → Result ℕ E → List (List ℕ) → List (List ℕ) → List (List ℕ)
ends_after (Ok n) opened before = if n == 0 then told_end opened before else before
ends_after (Err failed) opened before = before

-- reading a file whole tells its end once, and a failure none
abbrev pub ends_of_reading : {T E : Type 0} → Result T E → List ℕ → List (List ℕ) → List (List ℕ)
ends_of_reading (Ok bytes) name before = before ++ name ∷ []
ends_of_reading (Err error) name before = before

-- the same for the rest of the file that was opened last
abbrev pub ends_of_rest : {T E : Type 0} → Result T E → List (List ℕ) → List (List ℕ) → List (List ℕ)
ends_of_rest (Ok bytes) opened before = told_end opened before
ends_of_rest (Err error) opened before = before
