-- How a reader is kept, and what stops it.
use Rattle.std.specs.Prelude.{Option, None, Some, Result, Ok, Err}
use Rattle.pyx_core.specs.declared.cutting.Cutting.{Cutting}
use Rattle.pyx_core.specs.declared.fault.FeedError.{FeedError}
use Rattle.pyx_core.specs.declared.fault.FeedError.TheVariants.{Fault, Memory}
use Rattle.pyx_core.specs.declared.fault.PyxFault.{PyxFault}
use Rattle.pyx_core.specs.Reader.{Kept, ReaderState}
use Rattle.pyx_core.specs.inner.Begun.{shown}

-- what the lines of a text keep of it
abbrev pub kept_in : Cutting → Kept
kept_in lines = record {
  mode = lines.standing.mode;
  opened = lines.standing.opened.items;
  has_item = lines.standing.has_item;
  begun = shown lines.standing.events.begun;
  count = lines.count;
  half = lines.half.items;
}

-- the reader with these lines
abbrev pub state_of : Cutting → Option FeedError → ReaderState
state_of lines stopped =
    record { waiting = lines.standing.events.waiting.items; stopped = stopped; kept = kept_in lines }

-- why reading lines stops a reader
abbrev pub error_of : {E : Type 0} → Result (Option PyxFault) E → Option FeedError
error_of (Ok None) = None
error_of (Ok (Some fault)) = Some (Fault fault)
error_of (Err error) = Some Memory

abbrev pub stops : Option FeedError → Option FeedError → Option FeedError
stops old None = old
stops old (Some error) = Some error

abbrev pub answer_of : Option FeedError → Result (Unit {0}) FeedError
answer_of None = Ok tt
answer_of (Some error) = Err error
