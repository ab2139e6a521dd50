-- What a command writes behind its stages.
use Rattle.std.specs.Prelude.{◌≡◌, ◌≤◌, ℕ, Bool, false, List, IfErr, Result}
use Rattle.sch_io.specs.SinkLog.{SinkLog}
use Rattle.sch_io.specs.Wrote.{Appends}
use Rattle.sch_undo.specs.shown.Shown.{Shown}
use Rattle.sch_words.specs.declared.status.Status.TheVariants as status
use Rattle.sch_stops.specs.Output.{Output}
use Rattle.sch_stops.specs.Stops.{counted_if, ends_with}
use Rattle.sch_stops.specs.declared.stop.Stop.{Stop}
use Rattle.sch_commands.specs.Carried.{Concludes, status_of_end}
use Rattle.sch_commands.specs.Steps.{CountsBy}
use Rattle.sch_commands.specs.inner.Writing.{IsOfWriting}

-- what is written behind the stages of a command did this to output and count, and ended so, by the value that they made ready
pub record WritesBehind {A : Type 0} (outputs : A → Output → Type 0) (texts : A → List ℕ → Type 0) (visits : A → ℕ → Type 0) (evaluates : Bool) (value : A) (log later : SinkLog) (before after : ℕ) (result : Result Shown Stop) : Type 0 where
  pub whole : Concludes (outputs value) (λ _. ⊥) (texts value) (Appends log.written later.written) result
  pub writing : IfErr result IsOfWriting
  pub write_faults : later.faults ≡ counted_if (ends_with status.WriteFault result) log.faults
  pub counted : CountsBy (visits value) (status_of_end result) before after
  pub unevaluated : evaluates ≡ false → after ≡ before
  pub rises : before ≤ after
