-- What is written, and what may stop the writing.
use Rattle.std.specs.Prelude.{◌≡◌, ℕ, List, true, false, Option, None, Result, MatchResult, IfErr}
use Rattle.sch_io.specs.ReadThrough.{ReadsThrough, all_files}
use Rattle.sch_io.specs.ShelfState.{ShelfState}
use Rattle.sch_io.specs.SinkLog.{SinkLog}
use Rattle.sch_io.specs.Wrote.{Appends}
use Rattle.sch_undo.specs.state.ReportError.{ReportError}
use Rattle.sch_undo.specs.state.ReportError.TheVariants as report
use Rattle.svrl_out.specs.declared.report.OutError.{OutError}
use Rattle.svrl_out.specs.declared.report.OutError.TheVariants as out
use Rattle.sch_words.specs.declared.status.Status.TheVariants as status
use Rattle.sch_stops.specs.Stops.{ByCause, counted_if, ends_with, is_status, name_in, status_of}
use Rattle.sch_stops.specs.declared.stop.Stop.{Stop}
use Rattle.sch_stops.specs.declared.stop.Stop.TheVariants.{WriteFault, Memory}
use Rattle.sch_loading.specs.Reads.{extent_of_stop}
use Rattle.sch_commands.specs.Written.{AppendsFront, may_write}

-- what a stop tells is of what is written: of the outside only a failed write stops it, and all files may have been read
pub record IsOfWriting (stop : Stop) : Type 0 where
  pub unnamed : name_in stop ≡ None
  pub usage : is_status status.Usage (status_of stop) ≡ false
  pub missing : is_status status.Missing (status_of stop) ≡ false
  pub read_fault : is_status status.ReadFault (status_of stop) ≡ false
  pub writes : may_write (status_of stop) ≡ true
  pub all_read : (old new : ShelfState) → ReadsThrough all_files old new → ReadsThrough (extent_of_stop stop) old new

-- the stop of a run whose state is not written whole
abbrev pub of_report : ReportError → Stop
of_report report.Failed = WriteFault
of_report report.Memory = Memory

-- and of one whose watched expressions are not told whole
abbrev pub of_out : OutError → Stop
of_out out.Failed = WriteFault
of_out out.Memory = Memory

-- a text was appended whole, or a front of it where a write failed or memory ran out
abbrev pub Writes : {A : Type 0} → Option (List ℕ) → Option (List ℕ) → List ℕ → Result A Stop → Type 0
Writes old new text result = MatchResult result (λ _. Appends old new text)
    (ByCause (λ _. ⊥) (λ _. ⊥) (AppendsFront old new text) (AppendsFront old new text))

-- the same with the count of faults, and what may stop the writing
pub record WroteText {A : Type 0} (old new : SinkLog) (text : List ℕ) (result : Result A Stop) : Type 0 where
  pub told : Writes old.written new.written text result
  pub writing : IfErr result IsOfWriting
  pub faults : new.faults ≡ counted_if (ends_with status.WriteFault result) old.faults
