-- What the run of a command does to its outside, and how it ends.
use Rattle.std.specs.Prelude.{◌≡◌, ◌⊎◌, ◌≤◌, ℕ, false, ◌&&◌, List, [], ◌++◌, Some, MatchResult, Result, Ok, Err}
use Rattle.sch_io.specs.Files.{Files}
use Rattle.sch_io.specs.ReadThrough.{ReadsThrough}
use Rattle.sch_io.specs.ShelfState.{ShelfState}
use Rattle.sch_io.specs.SinkLog.{SinkLog}
use Rattle.sch_io.specs.Wrote.{Appends}
use Rattle.sch_undo.specs.shown.Shown.{Shown}
use Rattle.sch_words.specs.declared.status.Status.{Status}
use Rattle.sch_words.specs.declared.status.Status.TheVariants as status
use Rattle.sch_stops.specs.declared.stop.Stop.{Stop}
use Rattle.sch_commands.specs.Behaviours.{Behaviour, IsEnd}
use Rattle.sch_loading.specs.Reads.{IsLastOf, Opens, extent_of}
use Rattle.sch_stops.specs.Output.{Output}
use Rattle.sch_commands.specs.Output.{line_shown, status_shown}
use Rattle.sch_commands.specs.Written.{Fronted, may_have_written}
use Rattle.sch_stops.specs.Stops.{ByCause, Names, counted_if, ends_with, line_of, status_of}
use Rattle.sch_loading.specs.Stages.{goes, unread}
use Rattle.sch_commands.specs.Steps.{CountsBy}

-- the status of a run by how it ended: with a state that was written, or with what stopped it
abbrev pub status_of_end : Result Shown Stop → Status
status_of_end (Ok state) = status_shown state
status_of_end (Err stop) = status_of stop

abbrev pub line_of_end : Result Shown Stop → List ℕ
line_of_end (Ok state) = line_shown state
line_of_end (Err stop) = line_of stop

-- an output that may be ends so, and its bytes were written
pub record Shows (is_output : Output → Type 0) (written : List ℕ → Type 0) (ends : Status) (err : List ℕ) : Type 0 where
  pub output : Output
  pub may_be : is_output output
  pub ends_so : output.ends ≡ ends
  pub err_is : output.err ≡ err
  pub out : written output.out

-- how a run or a part of it ends, by the outputs that may be, the files to which it comes, the texts that it comes to write, and
-- what is written
abbrev pub Concludes : (Output → Type 0) → (List ℕ → Type 0) → (List ℕ → Type 0) → (List ℕ → Type 0) → Result Shown Stop → Type 0
Concludes is_output comes_to comes_to_write written result = MatchResult result
    (λ last. Shows is_output written (status_shown last) (line_shown last))
    (ByCause (λ says. Shows is_output written says.ends says.err) (λ name. comes_to name × written [])
    (Fronted comes_to_write written) (written [] ⊎ Fronted comes_to_write written))

-- how a command ends that opened these files, by the content of the files
abbrev pub Concluded : Behaviour → Files → List (List ℕ) → (List ℕ → Type 0) → Result Shown Stop → Type 0
Concluded asked files opened written result = Concludes (IsEnd (asked.ends files) opened) (λ name. asked.ends files opened (unread name))
    (λ text. asked.begins files opened (goes text)) written result

-- the visits of a command that opened these files
abbrev pub Visits : Behaviour → Files → List (List ℕ) → ℕ → Type 0
Visits asked files opened cost = asked.costs files opened (goes cost)

-- what the run of a command did to shelf, output and count, and how it ended
pub record Carried (asked : Behaviour) (old new : ShelfState) (log later : SinkLog) (before after : ℕ) (result : Result Shown Stop) : Type 0 where
  pub held : new.files ≡ old.files
  pub opened : List (List ℕ)
  pub noted : new.opened ≡ old.opened ++ opened
  pub which : Opens asked.named opened
  pub whole : (files : Files) → old.files ≡ Some files → Concluded asked files opened (Appends log.written later.written) result
  pub counted : (files : Files) → old.files ≡ Some files → CountsBy (Visits asked files opened) (status_of_end result) before after
  pub faults : new.faults ≡ counted_if (ends_with status.ReadFault result) old.faults
  pub misses : new.misses ≡ counted_if (ends_with status.Missing result) old.misses
  pub write_faults : later.faults ≡ counted_if (ends_with status.WriteFault result) log.faults
  pub told : Names (IsLastOf opened) result
  pub through : ReadsThrough (extent_of result) old new
  pub untouched : may_have_written result ≡ false → later ≡ log
  pub unevaluated : (asked.evaluates && may_have_written result) ≡ false → after ≡ before
  pub rises : before ≤ after
