-- What a sink shows.
use Rattle.std.specs.Prelude.{ℕ, List, Option}

-- all bytes written so far, where the sink tells them, and how often the host failed
pub record SinkLog : Type 0 where
  pub written : Option (List ℕ)
  pub faults : ℕ
