-- Scripts in which a line `undo` stands for taking an edit back: what comes of them.
use Rattle.std.specs.Prelude.{◌≡◌, ℕ, suc, Bool, false, if◌then◌else◌, List, [], ◌∷◌, Option, None, Some, Result, Ok, Err, codes}
use Rattle.std.specs.Str.{bytes_eq}
use Rattle.sch_base.specs.Lists.{is_nil}
use Rattle.edit_script.specs.declared.command.Command.{Command}
use Rattle.edit_script.specs.declared.command.Command.TheVariants.{Insert}
use Rattle.edit_script.specs.declared.command.Said.{Said}
use Rattle.edit_script.specs.declared.command.Said.TheVariants.{Whole, Opening}
use Rattle.edit_script.specs.declared.fault.ScriptFault.{ScriptFault}
use Rattle.edit_script.specs.declared.fault.ScriptKind.{ScriptKind}
use Rattle.edit_script.specs.CommandLine.{command_line}
use Rattle.edit_script.specs.Script.{LinesLeft, Opened, Takes, fault_at, is_dot, is_piece, joined, nothing, opened_in, payload_fault, piece_of, script_left, stops, with_line}

-- the line `undo`
abbrev pub is_undo : List ℕ → Bool
is_undo line = bytes_eq line (codes "undo")

-- of lines from the one with a number on, those behind the line `undo`, where this is the first that isn't empty
abbrev pub past_undo : ℕ → List (List ℕ) → Option LinesLeft
past_undo number [] = None
past_undo number (line ∷ lines) =
    if is_nil line then past_undo (suc number) lines
    else if is_undo line then Some (record { number = suc number; lines = lines; faulted = false })
    else None

-- what is left behind the line `undo`, where this is the next that isn't empty, and no fault was answered
abbrev pub behind_undo : LinesLeft → Option LinesLeft
behind_undo left = if left.faulted then None else past_undo left.number left.lines

-- what is to come of a script: commands and undos one after another, up to its end or its first fault
pub data Items : Type 0 where
  ends : Items
  breaks : ScriptFault → Items
  edits : Command → Items → Items
  undoes : Items → Items

-- how many commands and undos are to come
abbrev pub item_count : Items → ℕ
item_count ends = 0
item_count (breaks found) = 0
item_count (edits command items) = suc (item_count items)
item_count (undoes items) = suc (item_count items)

-- an insert whose fragment ends, and what follows
abbrev pub items_behind : Opened → Items → Items
items_behind insert rest =
    if is_piece (joined insert.lines) then edits (Insert insert.path insert.at (piece_of (joined insert.lines))) rest
    else breaks (payload_fault insert)

-- what the command line with a number says, and what follows: other items, or the fragment of the insert
abbrev pub items_on : ℕ → Result Said ScriptKind → Items → (Opened → Items) → Items
items_on number (Err kind) rest within = breaks (fault_at number kind)
items_on number (Ok (Whole command)) rest within = edits command rest
items_on number (Ok (Opening path at)) rest within = within (opened_in number path at)

-- what the lines from the one with a number on give, between items (None) or within the fragment of an insert
abbrev pub items_at : Option Opened → ℕ → List (List ℕ) → Items
items_at None number [] = ends
items_at None number (line ∷ lines) =
    if is_nil line then items_at None (suc number) lines
    else if is_undo line then undoes (items_at None (suc number) lines)
    else items_on number (command_line line) (items_at None (suc number) lines) (λ insert. items_at (Some insert) (suc number) lines)
items_at (Some insert) number [] = breaks (payload_fault insert)
items_at (Some insert) number (line ∷ lines) =
    if is_dot line then items_behind insert (items_at None (suc number) lines)
    else items_at (Some (with_line insert line)) (suc number) lines

-- what the lines that are left give, where undos are allowed
abbrev pub items_left : LinesLeft → Items
items_left left = items_at None left.number left.lines

-- these are the undos that are taken, and between them the commands that the script gives without undos
pub record ItemsInTurn : Type 0 where
  pub undo : (old new : LinesLeft) → behind_undo old ≡ Some new → items_left old ≡ undoes (items_left new)
  pub command : (command : Command) (old new : LinesLeft) → old.faulted ≡ false → behind_undo old ≡ None → Takes command old new →
      items_left old ≡ edits command (items_left new)
  pub end : (old : LinesLeft) → script_left old ≡ nothing → items_left old ≡ ends
  pub fault : (old : LinesLeft) (found : ScriptFault) → old.faulted ≡ false → behind_undo old ≡ None → script_left old ≡ stops found →
      items_left old ≡ breaks found
