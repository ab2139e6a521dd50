-- The ways in which what is to come of a script goes on, and what keeps them open.
use Rattle.std.specs.Prelude.{◌≡◌, ◌+◌, ◌<◌, ◌≤◌, ℕ, Bool, true, List, [], ◌∷◌, length, map, take, None, Some}
use Rattle.doc_tree.specs.cell.Cell.{Cell}
use Rattle.doc_tree.specs.Kinds.{is_document}
use Rattle.doc_tree.specs.Laws.{WellFormed}
use Rattle.doc_tree.specs.Table.{Contents, Table}
use Rattle.doc_tree.specs.Walks.{order}
use Rattle.doc_tree.specs.declared.refusal.EditRefusal.{EditRefusal}
use Rattle.doc_tree.specs.limits.TheConstants.{MAX_NODE_NUMBERS}
use Rattle.name_scopes.specs.Scoping.{InScope}
use Rattle.edit_script.specs.Undos as item
use Rattle.edit_script.specs.declared.command.Command.{Command}
use Rattle.edit_script.specs.declared.fault.ScriptFault.{ScriptFault}
use Rattle.edit_commands.specs.Commands.{IsEdited, command_refusal}
use Rattle.sch_undo.specs.entry.Entry.{Entry}
use Rattle.sch_undo.specs.Histories.{StandsFor}
use Rattle.sch_undo.specs.InTurn.{TouchesInTurn}
use Rattle.sch_commands.specs.Following.{Earlier, IsTakenBack, earlier_of}
use Rattle.sch_commands.specs.Telling.{Telling, under}

-- how what is to come of a script goes on, up to its end or its fault, by the document that it finds, and the edits before it that can
-- be undone, the newest first
pub data Way (telling : Telling) (undos : ℕ) : Table → List Earlier → item.Items → Type 0 where
  to_end : (T : Table) (backs : List Earlier) → Way telling undos T backs item.ends
  to_fault : (T : Table) (backs : List Earlier) (fault : ScriptFault) → Way telling undos T backs (item.breaks fault)
  over_refused : (T : Table) (backs : List Earlier) (command : Command) (reason : EditRefusal) (rest : item.Items) →
      command_refusal (under telling T) command ≡ Some reason → Way telling undos T backs rest → Way telling undos T backs (item.edits command rest)
  over_edited : (T U : Table) (backs : List Earlier) (command : Command) (rest : item.Items) →
      command_refusal (under telling T) command ≡ None → IsEdited T command U →
      Way telling undos U (take undos (earlier_of T command ∷ backs)) rest → Way telling undos T backs (item.edits command rest)
  over_undone : (T U : Table) (back : Earlier) (backs : List Earlier) (touched : Cell → Bool) (rest : item.Items) →
      IsTakenBack telling T back U → TouchesInTurn T back.commands U touched →
      Way telling undos U backs rest → Way telling undos T (back ∷ backs) (item.undoes rest)
  over_lacking : (T : Table) (back : Earlier) (backs : List Earlier) (rest : item.Items) →
      MAX_NODE_NUMBERS < length T + back.numbers → Way telling undos T (back ∷ backs) rest → Way telling undos T (back ∷ backs) (item.undoes rest)
  over_none : (T : Table) (rest : item.Items) → Way telling undos T [] rest → Way telling undos T [] (item.undoes rest)

-- the entries of edits that can be undone, and the documents from before them
abbrev pub entry_of : Earlier → Entry
entry_of back = record { commands = back.commands; numbers = back.numbers }

abbrev pub entries_of : List Earlier → List Entry
entries_of backs = map entry_of backs

abbrev pub trees_of : Telling → List Earlier → List Contents
trees_of telling backs = map (λ back. under telling back.tree) backs

-- a document in scope, with no more live nodes than there may be, and edits that lead back from it
pub record CanGoOn (telling : Telling) (T : Table) (backs : List Earlier) : Type 0 where
  pub well_formed : WellFormed T
  pub scoped : InScope T
  pub document : is_document T ≡ true
  pub within : length (order T) ≤ telling.pair_cap
  pub stands : StandsFor (under telling T) (entries_of backs) (trees_of telling backs)
