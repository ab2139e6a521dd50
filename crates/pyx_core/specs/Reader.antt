-- A reader of a text that comes in pieces: what it holds after the bytes that were fed, some events of which were taken.
use Rattle.std.specs.Prelude.{◌≡◌, ℕ, ◌<◌, ◌-◌, ◌^◌, Bool, List, ◌++◌, length, Option, None, Some, Result, MatchResult}
use Rattle.pyx_core.specs.declared.event.Located.{Located}
use Rattle.pyx_core.specs.declared.fault.FeedError.{FeedError}
use Rattle.pyx_core.specs.declared.fault.FeedError.TheVariants.{Fault, Memory}
use Rattle.pyx_core.specs.declared.fault.PyxFault.{PyxFault}
use Rattle.pyx_core.specs.declared.line_table.Line.{Line}
use Rattle.pyx_core.specs.declared.mode.Mode.{Mode}
use Rattle.pyx_core.specs.Before.{outermost_first, open_names, has_item, pending}
use Rattle.pyx_core.specs.Fronts.{IsFront}
use Rattle.pyx_core.specs.Lines.{unended}
use Rattle.pyx_core.specs.Reading.{so_far, completed, events_of, events_before_fault, fault_so_far, fault_of}

-- what is kept of a text to judge what follows: the names of the open elements, whether the top item has begun, the
-- event that the next line may continue, how many lines have ended, and the bytes after the last line end
pub record Kept : Type 0 where
  pub mode : Mode
  pub opened : List (List ℕ)
  pub has_item : Bool
  pub begun : Option Located
  pub count : ℕ
  pub half : List ℕ

-- a reader: the completed events that were not taken, why it has stopped, if it has, and what it keeps of the text
pub record ReaderState : Type 0 where
  pub waiting : List Located
  pub stopped : Option FeedError
  pub kept : Kept

-- what is kept after good lines, newest first, and the half of a line
abbrev pub kept_after : Mode → List Line → List ℕ → Kept
kept_after mode before half = record {
  mode = mode;
  opened = outermost_first (open_names before);
  has_item = has_item mode before;
  begun = pending mode before;
  count = length before;
  half = half;
}

-- the reader has stopped, and answers this from then on
abbrev pub IsStopped : ReaderState → FeedError → Type 0
IsStopped reader error = reader.stopped ≡ Some error

-- these bytes were fed, of which no line that has ended has a fault, and these events were taken
pub record Reads (reader : ReaderState) (mode : Mode) (fed : List ℕ) (taken : List Located) : Type 0 where
  pub good : fault_so_far mode fed ≡ None
  pub events : taken ++ reader.waiting ≡ completed mode fed
  pub runs : reader.stopped ≡ None
  pub keeps : reader.kept ≡ kept_after mode (so_far mode fed).before (unended fed)
  pub few : length fed < 2 ^ 64 - 1

-- the reader has stopped, and these events are taken or wait
pub record Stops (reader : ReaderState) (error : FeedError) (taken events : List Located) : Type 0 where
  pub stopped : IsStopped reader error
  pub events_are : taken ++ reader.waiting ≡ events

-- want of memory has stopped the reader; the events taken and those that wait are a front of these
pub record Wants (reader : ReaderState) (taken events : List Located) : Type 0 where
  pub stopped : IsStopped reader Memory
  pub front : IsFront (taken ++ reader.waiting) events

-- why a text was refused, of which these bytes were fed
abbrev pub Refuses : ReaderState → Option PyxFault → List Located → List Located → FeedError → Type 0
Refuses reader fault taken events (Fault found) =
    (fault ≡ Some found) × Stops reader (Fault found) taken events
Refuses reader fault taken events Memory = Wants reader taken events

-- these bytes were fed in all: the fault in the lines that have ended, if there is one
abbrev pub Feeds : ReaderState → Mode → List ℕ → List Located → Result (Unit {0}) FeedError → Type 0
Feeds reader mode fed taken result = MatchResult result (λ _. Reads reader mode fed taken)
    (Refuses reader (fault_so_far mode fed) taken (completed mode fed))

-- all events of a text are taken or wait
pub record Done (reader : ReaderState) (mode : Mode) (fed : List ℕ) (taken : List Located) : Type 0 where
  pub good : fault_of mode fed ≡ None
  pub events : taken ++ reader.waiting ≡ events_of mode fed

-- these bytes are the whole text: its fault, if it has one
abbrev pub Finishes : ReaderState → Mode → List ℕ → List Located → Result (Unit {0}) FeedError → Type 0
Finishes reader mode fed taken result = MatchResult result (λ _. Done reader mode fed taken)
    (Refuses reader (fault_of mode fed) taken (events_before_fault mode fed))
