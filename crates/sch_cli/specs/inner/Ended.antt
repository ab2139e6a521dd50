-- The status of a run, by how its command ended.
use Rattle.std.specs.Prelude.{◌≡◌, Result}
use Rattle.sch_commands.specs.shown.Shown.{Shown}
use Rattle.sch_words.specs.declared.status.Status.{Status}
use Rattle.sch_words.specs.declared.status.Status.TheVariants as status
use Rattle.sch_stops.specs.Stops.{ends_with, is_status}
use Rattle.sch_stops.specs.declared.stop.Stop.{Stop}
use Rattle.sch_commands.specs.Carried.{status_of_end}
use Rattle.sch_commands.specs.Written.{may_have_written, may_write}

-- the status of a run is that of its end, as far as counts and the output go
pub record HasStatus (ends : Status) (result : Result Shown Stop) : Type 0 where
  pub is : ends ≡ status_of_end result
  pub missing : is_status status.Missing ends ≡ ends_with status.Missing result
  pub read_fault : is_status status.ReadFault ends ≡ ends_with status.ReadFault result
  pub write_fault : is_status status.WriteFault ends ≡ ends_with status.WriteFault result
  pub writes : may_write ends ≡ may_have_written result
