-- Numbers of bytes that one call moves at most.
use Rattle.std.specs.Prelude.{ℕ, ◌≤◌, min, Option, None, Some}

-- so many, or as many as are set where these are fewer
abbrev pub at_most : Option ℕ → ℕ → ℕ
at_most None n = n
at_most (Some most) n = min n most

-- a set number is not 0
abbrev pub IsPiece : Option ℕ → Type 0
IsPiece None = Unit {0}
IsPiece (Some most) = 1 ≤ most
