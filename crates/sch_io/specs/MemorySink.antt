-- What a sink in memory shows.
use Rattle.std.specs.Prelude.{ℕ, List, Option}
use Rattle.sch_io.specs.Calls.{CallPlan}

-- the bytes written, how many there may be, how many a write takes at most, where a number is set; the calls, and the
-- faults so far
pub record Filled : Type 0 where
  pub written : List ℕ
  pub room : ℕ
  pub most : Option ℕ
  pub calls : CallPlan
  pub faults : ℕ
