-- What adding a text at the end does.
use Rattle.std.specs.Prelude.{◌≡◌, ℕ, List, ◌++◌}

-- a text was added at the end
pub record Added (before text after : List ℕ) : Type 0 where
  pub grown : after ≡ before ++ text
