-- What a shelf shows.
use Rattle.std.specs.Prelude.{ℕ, List, Option}
use Rattle.sch_io.specs.Files.{Files}

-- the files held and what is still to be read of the open one, where the shelf tells them; how many bytes were read
-- since the last `open`, up to the last value of a u64; the names that were opened, those that were refused among them,
-- and the names of the files whose end a read has told, one for each such read, both in their order; how often the host
-- failed, and how often a name wasn't held
pub record ShelfState : Type 0 where
  pub files : Option Files
  pub rest : Option (List ℕ)
  pub taken : ℕ
  pub opened : List (List ℕ)
  pub ends : List (List ℕ)
  pub faults : ℕ
  pub misses : ℕ
