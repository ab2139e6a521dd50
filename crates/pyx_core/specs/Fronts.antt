-- Fronts of lists of events.
use Rattle.std.specs.Prelude.{◌≡◌, List, ◌++◌}
use Rattle.pyx_core.specs.declared.event.Located.{Located}

-- a list is the front of another
pub record IsFront (front events : List Located) : Type 0 where
  pub later : List Located
  pub is : events ≡ front ++ later
