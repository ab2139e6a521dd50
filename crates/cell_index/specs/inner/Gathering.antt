-- Numbers that are wanted, gathered in a list, in any order and some perhaps more than once.
use Rattle.std.specs.Prelude.{◌≡◌, ◌<◌, ◌⊎◌, ℕ, Bool, true, List, slice_index_or}
use Rattle.std.specs.List.{Contains}

-- those that are wanted come to others
pub record Finds (wanted : ℕ → Bool) (old new : List ℕ) : Type 0 where
  pub stays : (n : ℕ) → Contains old n → Contains new n
  pub each : (n : ℕ) → Contains new n → Contains old n ⊎ (wanted n ≡ true)
  pub all : (n : ℕ) → wanted n ≡ true → Contains new n

-- those of the first hints that are wanted come to others
pub record Gathers (wanted : ℕ → Bool) (hints : List ℕ) (count : ℕ) (old new : List ℕ) : Type 0 where
  pub stays : (n : ℕ) → Contains old n → Contains new n
  pub each : (n : ℕ) → Contains new n → Contains old n ⊎ (wanted n ≡ true)
  pub all : (k : ℕ) → k < count → wanted (slice_index_or hints k 0) ≡ true → Contains new (slice_index_or hints k 0)
