-- Of a text that is to be written, what was written; and which ends of a run leave the output as it was.
use Rattle.std.specs.Prelude.{◌≡◌, ℕ, Bool, true, false, List, ◌++◌, Option, Result, Ok, Err}
use Rattle.sch_io.specs.Wrote.{Appends}
use Rattle.sch_words.specs.declared.status.Status.{Status}
use Rattle.sch_words.specs.declared.status.Status.TheVariants.{Usage, SchemaRefused, DocumentRefused, Missing, ReadFault}
use Rattle.sch_stops.specs.Stops.{status_of}
use Rattle.sch_stops.specs.declared.stop.Stop.{Stop}

-- a front of the text was appended
abbrev pub AppendsFront : Option (List ℕ) → Option (List ℕ) → List ℕ → Type 0
AppendsFront old new text = (done left : List ℕ) × (text ≡ done ++ left) × Appends old new done

-- a front was written of a text that the run comes to write
pub record Fronted (comes_to_write written : List ℕ → Type 0) : Type 0 where
  pub text : List ℕ
  pub comes : comes_to_write text
  pub done : List ℕ
  pub left : List ℕ
  pub is_front : text ≡ done ++ left
  pub out : written done

-- a run that ends so may have written to the output
abbrev pub may_write : Status → Bool
may_write Usage = false
may_write SchemaRefused = false
may_write DocumentRefused = false
may_write Missing = false
may_write ReadFault = false
may_write status = true

-- whether a run that ends so may have written to the output
abbrev pub may_have_written : {A : Type 0} → Result A Stop → Bool
may_have_written (Ok value) = true
may_have_written (Err stop) = may_write (status_of stop)
