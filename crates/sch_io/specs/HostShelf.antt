-- What a shelf over the host shows.
use Rattle.std.specs.Prelude.{ℕ, List, Option}

-- what is still to be read of the open file, where the host tells it, and how many of its bytes were read; the names that
-- were opened, and of the files whose end was told; and the faults and misses so far
pub record HostState : Type 0 where
  pub rest : Option (List ℕ)
  pub taken : ℕ
  pub opened : List (List ℕ)
  pub ends : List (List ℕ)
  pub faults : ℕ
  pub misses : ℕ
