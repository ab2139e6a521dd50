-- What is written for the commands of a script in which nothing is undone, and what they cost.
use Rattle.std.specs.Prelude.{◌≡◌, ℕ, ◌+◌, List, [], ◌++◌, None, Some}
use Rattle.doc_tree.specs.Table.{Table}
use Rattle.doc_tree.specs.declared.refusal.EditRefusal.{EditRefusal}
use Rattle.edit_script.specs.Script.{Script, nothing, onto, stops}
use Rattle.edit_script.specs.declared.command.Command.{Command}
use Rattle.edit_script.specs.declared.fault.ScriptFault.{ScriptFault}
use Rattle.edit_commands.specs.Commands.{IsEdited, command_refusal}
use Rattle.sch_undo.specs.shown.Shown.{Shown}
use Rattle.sch_words.specs.declared.status.Status.TheVariants.{ScriptRefused}
use Rattle.sch_stops.specs.EditLines.{edit_line, refused_line}
use Rattle.sch_stops.specs.Output.{Output, stopped}
use Rattle.sch_stops.specs.Refusals.{script_refused_line}
use Rattle.sch_stops.specs.declared.refusal.ScriptRefusal.TheVariants.{Faulted}
use Rattle.sch_commands.specs.Output.{ended, in_front}
use Rattle.sch_commands.specs.Telling.{Telling, edit_cost, under}
use Rattle.sch_commands.specs.Following.{then_shown}

-- the output of the commands from the one with a number on
pub data Follows (telling : Telling) : Table → ℕ → Shown → Script → Output → Type 0 where
  comes_to_end : (T : Table) (number : ℕ) (seen : Shown) → Follows telling T number seen nothing (ended [] seen)
  stops_at : (T : Table) (number : ℕ) (seen : Shown) (fault : ScriptFault) →
      Follows telling T number seen (stops fault) (stopped ScriptRefused (script_refused_line (Faulted fault)))
  refuses : (T : Table) (number : ℕ) (seen : Shown) (command : Command) (reason : EditRefusal) (rest : Script) (output : Output) →
      command_refusal (under telling T) command ≡ Some reason → Follows telling T (number + 1) seen rest output →
      Follows telling T number seen (onto command rest) (in_front (refused_line number reason) output)
  edits : (T U : Table) (number : ℕ) (seen : Shown) (command : Command) (rest : Script) (output : Output) →
      command_refusal (under telling T) command ≡ None → IsEdited T command U →
      Follows telling U (number + 1) (then_shown seen (telling.shows U)) rest output →
      Follows telling T number seen (onto command rest) (in_front (edit_line number ++ telling.text U) output)

-- a text that the first of these commands write
pub data Begins (telling : Telling) : Table → ℕ → Script → List ℕ → Type 0 where
  nothing_yet : (T : Table) (number : ℕ) (script : Script) → Begins telling T number script []
  refused : (T : Table) (number : ℕ) (command : Command) (reason : EditRefusal) (rest : Script) (text : List ℕ) →
      command_refusal (under telling T) command ≡ Some reason → Begins telling T (number + 1) rest text →
      Begins telling T number (onto command rest) (refused_line number reason ++ text)
  edited : (T U : Table) (number : ℕ) (command : Command) (rest : Script) (text : List ℕ) →
      command_refusal (under telling T) command ≡ None → IsEdited T command U → Begins telling U (number + 1) rest text →
      Begins telling T number (onto command rest) ((edit_line number ++ telling.text U) ++ text)

-- the visits for the states behind the commands
pub data EditsCost (telling : Telling) : Table → Script → ℕ → Type 0 where
  at_the_end : (T : Table) → EditsCost telling T nothing 0
  at_a_fault : (T : Table) (fault : ScriptFault) → EditsCost telling T (stops fault) 0
  of_refused : (T : Table) (command : Command) (reason : EditRefusal) (rest : Script) (cost : ℕ) →
      command_refusal (under telling T) command ≡ Some reason → EditsCost telling T rest cost → EditsCost telling T (onto command rest) cost
  of_edited : (T U : Table) (command : Command) (rest : Script) (cost : ℕ) →
      command_refusal (under telling T) command ≡ None → IsEdited T command U → EditsCost telling U rest cost →
      EditsCost telling T (onto command rest) (edit_cost telling T command U + cost)
