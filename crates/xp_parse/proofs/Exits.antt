-- The exit of a `?`.
use Rattle.std.proofs.Common.{◌≡◌, Result, Err, subst, sym}
use Rattle.std.specs.Result.{MatchResult, IsErrAnd}
use Rattle.std.proofs.lemmas.Result.{err_from_is_err_and}

pub at_err : {T E : Type 0} (r : Result T E) (P : T → Type 0) (Q : E → Type 0) (d : E) → r ≡ Err d → Q d → MatchResult r P Q
at_err r P Q d is q = let M : Result _ _ → Type 0 = λ x. MatchResult x P Q in subst M (sym is) q

pub exits : {T E : Type 0} (r : Result T E) (P : T → Type 0) (Q : E → Type 0) (d : E) →
    IsErrAnd r (λ y. y ≡ d) → Q d → MatchResult r P Q
exits r P Q d h q =
    let (y, is, same) = err_from_is_err_and r h in
    at_err r P Q y is (subst Q (sym same) q)
