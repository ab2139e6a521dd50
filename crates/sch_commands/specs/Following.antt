-- What is written for the commands and undos of an edit script, one after another.
use Rattle.std.specs.Prelude.{◌≡◌, ℕ, zero, suc, ◌+◌, ◌<◌, ◌≤◌, List, [], ◌∷◌, ◌++◌, length, take, Option, None, Some}
use Rattle.doc_tree.specs.SameTree.{SameTree}
use Rattle.doc_tree.specs.Table.{Table}
use Rattle.doc_tree.specs.declared.refusal.EditRefusal.{EditRefusal}
use Rattle.doc_tree.specs.declared.refusal.EditRefusal.TheVariants.{IdsSpent}
use Rattle.doc_tree.specs.limits.TheConstants.{MAX_NODE_NUMBERS}
use Rattle.edit_script.specs.Script.{at_start, script_of}
use Rattle.edit_script.specs.Undos as item
use Rattle.edit_script.specs.declared.command.Command.{Command}
use Rattle.edit_script.specs.declared.fault.ScriptFault.{ScriptFault}
use Rattle.edit_commands.specs.Commands.{IsEdited, command_refusal}
use Rattle.edit_iso_laws.specs.CommandsMove.{DoneInTurn}
use Rattle.edit_paths.specs.Entries.{undoing, undoing_numbers}
use Rattle.sch_undo.specs.shown.Shown.{Shown}
use Rattle.sch_undo.specs.shown.Shown.TheVariants.{Clean, Findings, Fault}
use Rattle.sch_words.specs.declared.status.Status.TheVariants.{ScriptRefused}
use Rattle.sch_stops.specs.declared.refusal.ScriptRefusal.TheVariants.{Faulted}
use Rattle.sch_commands.specs.Output.{Output, ended, in_front, stopped}
use Rattle.sch_commands.specs.Telling.{Telling, under}
use Rattle.sch_stops.specs.Refusals.{script_refused_line}
pub use Rattle.sch_stops.specs.EditLines.{edit_line, no_history_line, refused_line, undo_line}

-- what the states so far show, with one more: a fault where one is, and else what the last one shows
abbrev pub then_shown : Shown → Shown → Shown
then_shown Fault next = Fault
then_shown Clean next = next
then_shown Findings next = next

-- what is to come of a script in which nothing is undone
abbrev pub edits_alone : List Command → Option ScriptFault → item.Items
edits_alone [] None = item.ends
edits_alone [] (Some found) = item.breaks found
edits_alone (command ∷ commands) fault = item.edits command (edits_alone commands fault)

-- what a script gives, where so many edits can be undone: without one no line is an undo
abbrev pub items_of : ℕ → List ℕ → item.Items
items_of zero script = edits_alone (script_of script).commands (script_of script).fault
items_of (suc undos) script = item.items_left (at_start script)

-- an edit that can be undone: the document from before it, the commands that take it back, and how many new numbers they make
pub record Earlier : Type 0 where
  pub tree : Table
  pub commands : List Command
  pub numbers : ℕ

abbrev pub earlier_of : Table → Command → Earlier
earlier_of T command = record { tree = T; commands = undoing T command; numbers = undoing_numbers T command }

-- the commands that take an edit back make U, for which there are numbers enough: the document from before it again
pub record IsTakenBack (telling : Telling) (T : Table) (back : Earlier) (U : Table) : Type 0 where
  pub enough : length T + back.numbers ≤ MAX_NODE_NUMBERS
  pub done : DoneInTurn (under telling T) back.commands (under telling U)
  pub same : SameTree back.tree U

-- the output of what is to come of a script, where so many edits can be undone, by the document that it finds, the edits before it that
-- can be undone, the newest first, the number of the next command or undo, and what the states so far show
pub data Follows (telling : Telling) (undos : ℕ) : Table → List Earlier → ℕ → Shown → item.Items → Output → Type 0 where
  comes_to_end : (T : Table) (backs : List Earlier) (number : ℕ) (seen : Shown) → Follows telling undos T backs number seen item.ends (ended [] seen)
  stops_at : (T : Table) (backs : List Earlier) (number : ℕ) (seen : Shown) (fault : ScriptFault) →
      Follows telling undos T backs number seen (item.breaks fault) (stopped ScriptRefused (script_refused_line (Faulted fault)))
  refuses : (T : Table) (backs : List Earlier) (number : ℕ) (seen : Shown) (command : Command) (reason : EditRefusal) (rest : item.Items) (output : Output) →
      command_refusal (under telling T) command ≡ Some reason → Follows telling undos T backs (number + 1) seen rest output →
      Follows telling undos T backs number seen (item.edits command rest) (in_front (refused_line number reason) output)
  edits : (T U : Table) (backs : List Earlier) (number : ℕ) (seen : Shown) (command : Command) (rest : item.Items) (output : Output) →
      command_refusal (under telling T) command ≡ None → IsEdited T command U →
      Follows telling undos U (take undos (earlier_of T command ∷ backs)) (number + 1) (then_shown seen (telling.shows U)) rest output →
      Follows telling undos T backs number seen (item.edits command rest) (in_front (edit_line number ++ telling.text U) output)
  undoes : (T U : Table) (back : Earlier) (backs : List Earlier) (number : ℕ) (seen : Shown) (rest : item.Items) (output : Output) →
      IsTakenBack telling T back U →
      Follows telling undos U backs (number + 1) (then_shown seen (telling.shows U)) rest output →
      Follows telling undos T (back ∷ backs) number seen (item.undoes rest) (in_front (undo_line number ++ telling.text U) output)
  lacks_numbers : (T : Table) (back : Earlier) (backs : List Earlier) (number : ℕ) (seen : Shown) (rest : item.Items) (output : Output) →
      MAX_NODE_NUMBERS < length T + back.numbers → Follows telling undos T (back ∷ backs) (number + 1) seen rest output →
      Follows telling undos T (back ∷ backs) number seen (item.undoes rest) (in_front (refused_line number IdsSpent) output)
  has_no_history : (T : Table) (number : ℕ) (seen : Shown) (rest : item.Items) (output : Output) →
      Follows telling undos T [] (number + 1) seen rest output →
      Follows telling undos T [] number seen (item.undoes rest) (in_front (no_history_line number) output)

-- a text that the first of these write
pub data Begins (telling : Telling) (undos : ℕ) : Table → List Earlier → ℕ → item.Items → List ℕ → Type 0 where
  nothing_yet : (T : Table) (backs : List Earlier) (number : ℕ) (items : item.Items) → Begins telling undos T backs number items []
  refused : (T : Table) (backs : List Earlier) (number : ℕ) (command : Command) (reason : EditRefusal) (rest : item.Items) (text : List ℕ) →
      command_refusal (under telling T) command ≡ Some reason → Begins telling undos T backs (number + 1) rest text →
      Begins telling undos T backs number (item.edits command rest) (refused_line number reason ++ text)
  edited : (T U : Table) (backs : List Earlier) (number : ℕ) (command : Command) (rest : item.Items) (text : List ℕ) →
      command_refusal (under telling T) command ≡ None → IsEdited T command U →
      Begins telling undos U (take undos (earlier_of T command ∷ backs)) (number + 1) rest text →
      Begins telling undos T backs number (item.edits command rest) ((edit_line number ++ telling.text U) ++ text)
  undone : (T U : Table) (back : Earlier) (backs : List Earlier) (number : ℕ) (rest : item.Items) (text : List ℕ) →
      IsTakenBack telling T back U → Begins telling undos U backs (number + 1) rest text →
      Begins telling undos T (back ∷ backs) number (item.undoes rest) ((undo_line number ++ telling.text U) ++ text)
  lacking_numbers : (T : Table) (back : Earlier) (backs : List Earlier) (number : ℕ) (rest : item.Items) (text : List ℕ) →
      MAX_NODE_NUMBERS < length T + back.numbers → Begins telling undos T (back ∷ backs) (number + 1) rest text →
      Begins telling undos T (back ∷ backs) number (item.undoes rest) (refused_line number IdsSpent ++ text)
  without_history : (T : Table) (number : ℕ) (rest : item.Items) (text : List ℕ) → Begins telling undos T [] (number + 1) rest text →
      Begins telling undos T [] number (item.undoes rest) (no_history_line number ++ text)
