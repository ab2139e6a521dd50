-- All that a run promises, clause by clause, of its words, its shelf, output and error output before and after, its status, and its
-- count of steps before and after.
use Rattle.std.specs.Prelude.{◌≡◌, ◌≤◌, ◌++◌, ◌↔◌, ℕ, false, List, None}
use Rattle.sch_io.specs.ReadThrough.{ReadsThrough}
use Rattle.sch_io.specs.ShelfState.{ShelfState}
use Rattle.sch_io.specs.SinkLog.{SinkLog}
use Rattle.sch_io.specs.Wrote.{Appends}
use Rattle.sch_words.specs.Commands.{command_of}
use Rattle.sch_words.specs.declared.status.Status.{Status}
use Rattle.sch_words.specs.declared.status.Status.TheVariants as status
use Rattle.sch_stops.specs.Stops.{counted_if, is_status}
use Rattle.sch_commands.specs.Behaviours.{asked_by}
use Rattle.sch_cli.specs.Headline.{Headline}
use Rattle.sch_commands.specs.Written.{may_write}
use Rattle.sch_cli.specs.Runs.{IsLineOf, OpensFiles, Tells, extent_of_status, may_evaluate}

-- each field is the clause of `run` with its name
pub record Ran (words : List (List ℕ)) (shelf_old shelf_new : ShelfState) (out_old out_new err_old err_new : SinkLog) (ends : Status) (steps_old steps_new : ℕ) : Type 0 where
  pub headline : Headline shelf_old.files words (λ opened. shelf_new.opened ≡ shelf_old.opened ++ opened)
      (Appends out_old.written out_new.written) (Tells err_old err_new) ends steps_old steps_new
  pub line : (line : List ℕ) × IsLineOf shelf_old.opened shelf_new.opened ends line × Tells err_old err_new line
  pub usage : (ends ≡ status.Usage) ↔ (command_of words ≡ None)
  pub opened : OpensFiles (asked_by words).named shelf_old.opened shelf_new.opened
  pub through : ReadsThrough (extent_of_status ends) shelf_old shelf_new
  pub held : shelf_new.files ≡ shelf_old.files
  pub misses : shelf_new.misses ≡ counted_if (is_status status.Missing ends) shelf_old.misses
  pub read_faults : shelf_new.faults ≡ counted_if (is_status status.ReadFault ends) shelf_old.faults
  pub write_faults : out_new.faults ≡ counted_if (is_status status.WriteFault ends) out_old.faults
  pub untouched : may_write ends ≡ false → out_new ≡ out_old
  pub unevaluated : may_evaluate words ends ≡ false → steps_new ≡ steps_old
  pub steps : steps_old ≤ steps_new
