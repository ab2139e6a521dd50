-- What a run promises: what it writes, and what it costs.
use Rattle.std.specs.Prelude.{ℕ, List, Option}
use Rattle.sch_io.specs.Files.{Files}
use Rattle.sch_words.specs.declared.status.Status.{Status}
use Rattle.sch_cli.specs.Runs.{CountsOver, Ends}

-- over a shelf that tells its files
pub record Headline (files : Option Files) (words : List (List ℕ)) (opens : List (List ℕ) → Type 0) (written told : List ℕ → Type 0) (status : Status) (before after : ℕ) : Type 0 where
  -- the run ends as the files and words say: a report is the standard's of the tree as it stands, at the start and after each accepted edit and each undo
  pub whole : Ends files words opens written told status
  -- and the count of steps rises by the visits of all units for the first state, and for an accepted edit or an undo by those of the units
  -- that are new or whose reads it touched; where an evaluation faults, or the run is stopped, it may rise by less
  pub counted : CountsOver files words status before after
