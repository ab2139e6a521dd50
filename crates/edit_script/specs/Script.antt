-- The commands of an edit script: how its lines become commands, and where its first fault is.
use Rattle.std.specs.Prelude.{◌≡◌, ℕ, suc, ◌+◌, Bool, true, false, ◌&&◌, if◌then◌else◌, List, [], ◌∷◌, ◌++◌, length, Option, None, Some, Result, Ok, Err, is_none}
use Rattle.std.specs.List.{flat_map}
use Rattle.std.specs.Str.{bytes_eq}
use Rattle.sch_base.specs.Lists.{is_nil}
use Rattle.pyx_core.specs.declared.event.Event.{Event}
use Rattle.pyx_core.specs.declared.fault.PyxFault.{PyxFault}
use Rattle.pyx_core.specs.declared.mode.Mode.TheVariants.{Fragment}
use Rattle.pyx_core.specs.Lines.{ended_lines, unended}
use Rattle.pyx_core.specs.Nesting.{bare}
use Rattle.pyx_core.specs.Reading.{events_of, fault_of}
use Rattle.name_scopes.specs.Fragments.{names_fault}
use Rattle.edit_script.specs.declared.command.Command.{Command}
use Rattle.edit_script.specs.declared.command.Command.TheVariants.{Insert}
use Rattle.edit_script.specs.declared.command.PathStep.{PathStep}
use Rattle.edit_script.specs.declared.command.Said.{Said}
use Rattle.edit_script.specs.declared.command.Said.TheVariants.{Whole, Opening}
use Rattle.edit_script.specs.declared.fault.ScriptError.{ScriptError}
use Rattle.edit_script.specs.declared.fault.ScriptError.TheVariants.{Fault, Memory}
use Rattle.edit_script.specs.declared.fault.ScriptFault.{ScriptFault}
use Rattle.edit_script.specs.declared.fault.ScriptKind.{ScriptKind}
use Rattle.edit_script.specs.declared.fault.ScriptKind.TheVariants.{BadPayload}
use Rattle.edit_script.specs.CommandLine.{command_line}

-- the last line, if it lacks its line end
abbrev pub last_line : List ℕ → List (List ℕ)
last_line [] = []
last_line (b ∷ bytes) = (b ∷ bytes) ∷ []

-- the lines of a script
abbrev pub lines_of : List ℕ → List (List ℕ)
lines_of bytes = ended_lines bytes ++ last_line (unended bytes)

-- a line and its line end, LF
abbrev pub with_end : List ℕ → List ℕ
with_end line = line ++ 10 ∷ []

-- the text of some lines, each with its line end
abbrev pub joined : List (List ℕ) → List ℕ
joined lines = flat_map with_end lines

-- the line `.`, which ends a fragment
abbrev pub is_dot : List ℕ → Bool
is_dot line = bytes_eq line (46 ∷ [])

-- what is to come of a script: the commands before the first fault, and this fault
pub record Script : Type 0 where
  pub commands : List Command
  pub fault : Option ScriptFault

-- the end of a script
abbrev pub nothing : Script
nothing = record { commands = []; fault = None }

-- a fault, before which no command is left
abbrev pub stops : ScriptFault → Script
stops found = record { commands = []; fault = Some found }

-- a command in front of others
abbrev pub onto : Command → Script → Script
onto command script = record { commands = command ∷ script.commands; fault = script.fault }

-- a fault of a kind in a line
abbrev pub fault_at : ℕ → ScriptKind → ScriptFault
fault_at number what = record { line = number; kind = what }

-- an insert within its fragment: the number of its line, where the fragment comes, and the fragment's lines so far
pub record Opened : Type 0 where
  pub line : ℕ
  pub path : List PathStep
  pub at : ℕ
  pub lines : List (List ℕ)

-- such an insert as its line leaves it
abbrev pub opened_in : ℕ → List PathStep → ℕ → Opened
opened_in number steps place = record { line = number; path = steps; at = place; lines = [] }

-- the same with a line more
abbrev pub with_line : Opened → List ℕ → Opened
with_line insert bytes =
    record { line = insert.line; path = insert.path; at = insert.at; lines = insert.lines ++ bytes ∷ [] }

-- the events of a fragment
abbrev pub piece_of : List ℕ → List Event
piece_of text = bare (events_of Fragment text)

-- the text is a fragment of PYX, and its names break no rule
abbrev pub is_piece : List ℕ → Bool
is_piece text = is_none (fault_of Fragment text) && is_none (names_fault (piece_of text))

-- the line of the fault of a fragment of so many lines, which stands behind the line with a number: that of the fault of its
-- PYX, if there is one, and else the line after its last
abbrev pub payload_line : ℕ → ℕ → Option PyxFault → ℕ
payload_line number count (Some found) = number + found.line
payload_line number count None = number + suc count

-- the fault of a fragment that is no piece, or doesn't end
abbrev pub payload_fault : Opened → ScriptFault
payload_fault insert =
    fault_at (payload_line insert.line (length insert.lines) (fault_of Fragment (joined insert.lines))) BadPayload

-- an insert whose fragment ends, and what follows
abbrev pub inserts : Opened → Script → Script
inserts insert rest =
    if is_piece (joined insert.lines) then onto (Insert insert.path insert.at (piece_of (joined insert.lines))) rest
    else stops (payload_fault insert)

-- what the command line with a number says, and what follows: other commands, or the fragment of the insert
abbrev pub goes_on : ℕ → Result Said ScriptKind → Script → (Opened → Script) → Script
goes_on number (Err kind) rest within = stops (fault_at number kind)
goes_on number (Ok (Whole command)) rest within = onto command rest
goes_on number (Ok (Opening path at)) rest within = within (opened_in number path at)

-- what the lines from the one with a number on give, between commands (None) or within the fragment of an insert
abbrev pub script_at : Option Opened → ℕ → List (List ℕ) → Script
script_at None number [] = nothing
script_at None number (line ∷ lines) =
    if is_nil line then script_at None (suc number) lines
    else goes_on number (command_line line) (script_at None (suc number) lines) (λ insert. script_at (Some insert) (suc number) lines)
script_at (Some insert) number [] = stops (payload_fault insert)
script_at (Some insert) number (line ∷ lines) =
    if is_dot line then inserts insert (script_at None (suc number) lines)
    else script_at (Some (with_line insert line)) (suc number) lines

-- the lines of a script that are left, between commands, and the number of the first; and whether their fault was answered
pub record LinesLeft : Type 0 where
  pub number : ℕ
  pub lines : List (List ℕ)
  pub faulted : Bool

-- the lines of some bytes, the first of which has a number
abbrev pub left_from : ℕ → List ℕ → Bool → LinesLeft
left_from first bytes faulted = record { number = first; lines = lines_of bytes; faulted = faulted }

-- all lines of a script
abbrev pub at_start : List ℕ → LinesLeft
at_start bytes = left_from 1 bytes false

-- what is left where an error was answered: the same lines, of which it is known from then on that they have a fault
abbrev pub left_by : ScriptError → LinesLeft → LinesLeft
left_by (Fault found) left = record left { faulted = true }
left_by Memory left = left

-- what the lines that are left give
abbrev pub script_left : LinesLeft → Script
script_left left = script_at None left.number left.lines

-- what a script gives
abbrev pub script_of : List ℕ → Script
script_of bytes = script_left (at_start bytes)

-- a command was taken from the lines that were left: some lines in front, which alone give this command and no more
pub record Takes (command : Command) (old new : LinesLeft) : Type 0 where
  pub taken : List (List ℕ)
  pub front : old.lines ≡ taken ++ new.lines
  pub number : new.number ≡ old.number + length taken
  pub alone : script_at None old.number taken ≡ onto command nothing
  pub faulted : new.faulted ≡ old.faulted
