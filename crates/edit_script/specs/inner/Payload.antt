-- The fragment behind an insert.
use Rattle.std.specs.Prelude.{◌≡◌, ℕ, suc, ◌+◌, ◌≤◌, false, List, ◌++◌, length, None, Some}
use Rattle.pyx_core.specs.declared.mode.Mode.TheVariants.{Fragment}
use Rattle.pyx_core.specs.Reading.{fault_of}
use Rattle.edit_script.specs.declared.command.PathStep.{PathStep}
use Rattle.edit_script.specs.declared.command.Command.TheVariants.{Insert}
use Rattle.edit_script.specs.declared.fault.ScriptFault.{ScriptFault}
use Rattle.edit_script.specs.declared.fault.ScriptKind.TheVariants.{BadPayload}
use Rattle.edit_script.specs.declared.payload.Insertion.{Insertion}
use Rattle.edit_script.specs.Script.{Opened, fault_at, inserts, is_piece, joined, lines_of, onto, opened_in, payload_fault, payload_line, script_at, stops}
use Rattle.edit_script.specs.WellFormed.{IsPiece}

-- an insert with more lines of its fragment
abbrev pub with_lines : Opened → List (List ℕ) → Opened
with_lines insert more = record { line = insert.line; path = insert.path; at = insert.at; lines = insert.lines ++ more }

-- a fragment with which some bytes begin, how many lines it has, and what follows the line that ends it
pub record IsPayload (bytes text : List ℕ) (count : ℕ) (rest : List ℕ) : Type 0 where
  pub lines : List (List ℕ)
  pub text_is : text ≡ joined lines
  pub count_is : count ≡ length lines
  pub few : suc count + length rest ≤ length bytes
  pub short : length text ≤ length bytes
  -- its lines, and the one that ends it
  pub taken : List (List ℕ)
  pub front : lines_of bytes ≡ taken ++ lines_of rest
  pub more_is : length taken ≡ suc count
  pub script : (insert : Opened) (number : ℕ) (more : List (List ℕ)) → script_at (Some insert) number (taken ++ more)
      ≡ inserts (with_lines insert lines) (script_at None (number + suc count) more)

-- no line ends the fragment
abbrev pub IsUnended : List ℕ → Type 0
IsUnended bytes = (insert : Opened) (number : ℕ) →
    script_at (Some insert) number (lines_of bytes) ≡ stops (payload_fault (with_lines insert (lines_of bytes)))

-- a fragment isn't one of PYX, or breaks a rule of names
pub record Refuses (number : ℕ) (text : List ℕ) (count : ℕ) (found : ScriptFault) : Type 0 where
  pub broken : is_piece text ≡ false
  pub fault : found ≡ fault_at (payload_line number count (fault_of Fragment text)) BadPayload

-- an insert in the line with a number was read, behind which these bytes stand: its fragment, with the line that ends it, was taken
pub record Inserted (number : ℕ) (bytes : List ℕ) (done : Insertion) : Type 0 where
  pub taken : List (List ℕ)
  pub front : lines_of bytes ≡ taken ++ lines_of done.rest.now
  pub number_is : done.number ≡ suc number + length taken
  pub script : (path : List PathStep) (at : ℕ) (more : List (List ℕ)) → script_at (Some (opened_in number path at)) (suc number) (taken ++ more)
      ≡ onto (Insert path at done.piece) (script_at None done.number more)
  pub formed : IsPiece done.piece
  pub few : done.number + length done.rest.now ≤ suc (number + length bytes)

-- the insert has a fault
abbrev pub Stops : ℕ → List ℕ → ScriptFault → Type 0
Stops number bytes found = (path : List PathStep) (at : ℕ) →
    script_at (Some (opened_in number path at)) (suc number) (lines_of bytes) ≡ stops found

-- the text of the lines of some bytes, and how many there are
pub record Copied (bytes text : List ℕ) (count : ℕ) : Type 0 where
  pub text_is : text ≡ joined (lines_of bytes)
  pub count_is : count ≡ length (lines_of bytes)
  pub few : count ≤ length bytes
  pub short : length text ≤ suc (length bytes)
