-- Two scopes that are kept side by side.
use Rattle.std.proofs.Common.{◌≡◌, ℕ, false, List, [], ◌∷◌, ◌++◌, Option, None, Some, is_some, length, take, refl, ap}
use Rattle.xp_types.specs.Scope.{Scope}
use Rattle.sch_plan.specs.Lets.{Seen, scope}

pub none-there : {A : Type 0} (o : Option A) → is_some o ≡ false → o ≡ None
none-there None e = refl
none-there (Some x) e = absurd (cc)

-- what was there before more was added
pub taken : {A : Type 0} (xs ys : List A) → take (length xs) (xs ++ ys) ≡ xs
taken [] ys = refl
taken (x ∷ xs) ys = ap (λ l. x ∷ l) (taken xs ys)

-- the scope that is kept for expressions
pub scope-of : (S : Scope) (n : ℕ) (seen : Seen) → record { prefixes = S.prefixes; variables = S.variables; next = n } ≡ seen → S.in_pattern ≡ false → S ≡ scope seen
scope-of S n seen v e = λ i. record { in_pattern = e i; prefixes = (v i).prefixes; variables = (v i).variables }
