-- The events of a text, and its first fault.
use Rattle.std.specs.Prelude.{◌≡◌, ℕ, suc, List, [], ◌∷◌, ◌++◌, length, ◌≤◌, Option, None, Some, Result, Ok, Err}
use Rattle.std.specs.Option.{option_to_list}
use Rattle.pyx_core.specs.declared.event.Located.{Located}
use Rattle.pyx_core.specs.declared.fault.FeedError.{FeedError}
use Rattle.pyx_core.specs.declared.fault.FeedError.TheVariants.{Fault, Memory}
use Rattle.pyx_core.specs.declared.fault.PyxFault.{PyxFault}
use Rattle.pyx_core.specs.declared.fault.PyxKind.{PyxKind}
use Rattle.pyx_core.specs.declared.line_table.Line.{Line}
use Rattle.pyx_core.specs.declared.mode.Mode.{Mode}
use Rattle.pyx_core.specs.Before.{pending, closed, misplaced, lacking}
use Rattle.pyx_core.specs.Lines.{ended_lines, unended}
use Rattle.pyx_core.specs.LineTable.{line_of}

-- a fault of a kind in a line
abbrev pub fault_in : ℕ → PyxKind → PyxFault
fault_in number what = record { line = number; kind = what }

-- a line, or the rule that it breaks, if there is one
abbrev pub unless : Line → Option PyxKind → Result Line PyxKind
unless line None = Ok line
unless line (Some kind) = Err kind

-- a line that is good by itself, after the lines before it
abbrev pub placed : Mode → List Line → Result Line PyxKind → Result Line PyxKind
placed mode before (Err kind) = Err kind
placed mode before (Ok line) = unless line (misplaced mode before line)

-- a line, or the first of the rules that it breaks
abbrev pub judge : Mode → List Line → List ℕ → Result Line PyxKind
judge mode before bytes = placed mode before (line_of bytes)

-- the good lines before the first fault, newest first, and this fault
pub record Judged : Type 0 where
  pub before : List Line
  pub fault : Option PyxFault

abbrev pub sound : List Line → Judged
sound lines = record { before = lines; fault = None }

-- a fault in the line after these
abbrev pub faulty : List Line → PyxKind → Judged
faulty lines what = record { before = lines; fault = Some (fault_in (suc (length lines)) what) }

-- what follows a line
abbrev pub and_then : List Line → Result Line PyxKind → (Line → Judged) → Judged
and_then before (Ok line) next = next line
and_then before (Err kind) next = faulty before kind

-- each of the lines in turn, after those before it
abbrev pub judged : Mode → List Line → List (List ℕ) → Judged
judged mode before [] = sound before
judged mode before (bytes ∷ lines) =
    and_then before (judge mode before bytes) (λ line. judged mode (line ∷ before) lines)

-- the lines that end
abbrev pub so_far : Mode → List ℕ → Judged
so_far mode bytes = judged mode [] (ended_lines bytes)

-- all lines; the last one may lack its line end, and be empty
abbrev pub in_all : Mode → List ℕ → Judged
in_all mode bytes = judged mode [] (ended_lines bytes ++ unended bytes ∷ [])

-- the events that the lines that end complete
abbrev pub completed : Mode → List ℕ → List Located
completed mode bytes = closed mode (so_far mode bytes).before

-- the first fault in the lines that end
abbrev pub fault_so_far : Mode → List ℕ → Option PyxFault
fault_so_far mode bytes = (so_far mode bytes).fault

-- a fault after the last of these lines, of which it has the number: that of the line ends plus 1
abbrev pub end_fault : List Line → Option PyxKind → Option PyxFault
end_fault before None = None
end_fault before (Some kind) = Some (fault_in (length before) kind)

-- a fault in the lines, or at their end
abbrev pub or_lacking : Mode → List Line → Option PyxFault → Option PyxFault
or_lacking mode before (Some fault) = Some fault
or_lacking mode before None = end_fault before (lacking mode before)

-- the first fault of a whole text
abbrev pub fault_of : Mode → List ℕ → Option PyxFault
fault_of mode bytes = or_lacking mode (in_all mode bytes).before (in_all mode bytes).fault

-- the events of these lines, if the text ends after them
abbrev pub ended : Mode → List Line → List Located
ended mode before = closed mode before ++ option_to_list (pending mode before)

-- the events of a text without fault
abbrev pub events_of : Mode → List ℕ → List Located
events_of mode bytes = ended mode (in_all mode bytes).before

-- the events of a text, if it has no fault, and else those that come before the fault
abbrev pub events_unless : Mode → List ℕ → Option PyxFault → List Located
events_unless mode bytes None = events_of mode bytes
events_unless mode bytes (Some fault) = completed mode bytes

abbrev pub events_before_fault : Mode → List ℕ → List Located
events_before_fault mode bytes = events_unless mode bytes (fault_of mode bytes)

-- what holds of the fault, where there is one
abbrev pub IfFault : (PyxFault → Type 0) → FeedError → Type 0
IfFault P (Fault fault) = P fault
IfFault P Memory = Unit {0}

-- a fault in the lines that end stays the fault, and no event comes any more
pub record FaultStays (mode : Mode) (bytes more : List ℕ) (fault : PyxFault) : Type 0 where
  pub so_far : fault_so_far mode (bytes ++ more) ≡ Some fault
  pub in_all : fault_of mode (bytes ++ more) ≡ Some fault
  pub events : completed mode (bytes ++ more) ≡ completed mode bytes

abbrev pub FaultsStay : Type 0
FaultsStay = (mode : Mode) (bytes more : List ℕ) (fault : PyxFault) → fault_so_far mode bytes ≡ Some fault →
    FaultStays mode bytes more fault

-- an event that is completed stays: what more bytes complete, and the events of the text, come after those
pub record CompletedStays (mode : Mode) (bytes more : List ℕ) : Type 0 where
  pub so_far : (later : List Located) × (completed mode (bytes ++ more) ≡ completed mode bytes ++ later)
  pub in_all : fault_of mode (bytes ++ more) ≡ None →
      (later : List Located) × (events_of mode (bytes ++ more) ≡ completed mode bytes ++ later)

abbrev pub CompletedEventsStay : Type 0
CompletedEventsStay = (mode : Mode) (bytes more : List ℕ) → CompletedStays mode bytes more

-- a text has no more events than bytes
abbrev pub EventsAreFew : Type 0
EventsAreFew = (mode : Mode) (bytes : List ℕ) → length (events_of mode bytes) ≤ length bytes
