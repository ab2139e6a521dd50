-- What a run counts: the visits of all that is told of a document for its first state, and for each accepted edit and each undo those of
-- what is new, or whose reads its commands touched.
use Rattle.std.specs.Prelude.{◌≡◌, ◌⊎◌, ℕ, ◌+◌, ◌<◌, ◌≤◌, Bool, List, [], ◌∷◌, length, take, None, Some}
use Rattle.doc_tree.specs.cell.Cell.{Cell}
use Rattle.doc_tree.specs.Table.{Table}
use Rattle.doc_tree.specs.declared.refusal.EditRefusal.{EditRefusal}
use Rattle.doc_tree.specs.limits.TheConstants.{MAX_NODE_NUMBERS}
use Rattle.edit_script.specs.Undos as item
use Rattle.edit_script.specs.declared.command.Command.{Command as Edit}
use Rattle.edit_script.specs.declared.fault.ScriptFault.{ScriptFault}
use Rattle.edit_commands.specs.Commands.{IsEdited, command_refusal}
use Rattle.sch_undo.specs.InTurn.{TouchesInTurn}
use Rattle.sch_words.specs.declared.status.Status.{Status}
use Rattle.sch_words.specs.declared.status.Status.TheVariants.{Clean, Findings, ScriptRefused, Faulted, WriteFault, Memory}
use Rattle.sch_commands.specs.Following.{Earlier, IsTakenBack, earlier_of}
use Rattle.sch_commands.specs.Telling.{Telling, edit_cost, under}

-- the visits for the states behind the commands and undos of a script, by the document that they find, and the edits before them that
-- can be undone, the newest first
pub data EditsCost (telling : Telling) (undos : ℕ) : Table → List Earlier → item.Items → ℕ → Type 0 where
  at_the_end : (T : Table) (backs : List Earlier) → EditsCost telling undos T backs item.ends 0
  at_a_fault : (T : Table) (backs : List Earlier) (fault : ScriptFault) → EditsCost telling undos T backs (item.breaks fault) 0
  of_refused : (T : Table) (backs : List Earlier) (command : Edit) (reason : EditRefusal) (rest : item.Items) (cost : ℕ) →
      command_refusal (under telling T) command ≡ Some reason → EditsCost telling undos T backs rest cost →
      EditsCost telling undos T backs (item.edits command rest) cost
  of_edited : (T U : Table) (backs : List Earlier) (command : Edit) (rest : item.Items) (cost : ℕ) →
      command_refusal (under telling T) command ≡ None → IsEdited T command U →
      EditsCost telling undos U (take undos (earlier_of T command ∷ backs)) rest cost →
      EditsCost telling undos T backs (item.edits command rest) (edit_cost telling T command U + cost)
  of_undone : (T U : Table) (back : Earlier) (backs : List Earlier) (touched : Cell → Bool) (rest : item.Items) (cost : ℕ) →
      IsTakenBack telling T back U → TouchesInTurn T back.commands U touched → EditsCost telling undos U backs rest cost →
      EditsCost telling undos T (back ∷ backs) (item.undoes rest) (telling.cost_anew T touched U + cost)
  of_lacking : (T : Table) (back : Earlier) (backs : List Earlier) (rest : item.Items) (cost : ℕ) →
      MAX_NODE_NUMBERS < length T + back.numbers → EditsCost telling undos T (back ∷ backs) rest cost →
      EditsCost telling undos T (back ∷ backs) (item.undoes rest) cost
  of_none : (T : Table) (rest : item.Items) (cost : ℕ) → EditsCost telling undos T [] rest cost → EditsCost telling undos T [] (item.undoes rest) cost

-- the count rose by exactly the visits
abbrev pub CountsAll : (ℕ → Type 0) → ℕ → ℕ → Type 0
CountsAll costs before after = (cost : ℕ) × costs cost × (after ≡ before + cost)

-- the count rose by these at most
abbrev pub CountsAtMost : (ℕ → Type 0) → ℕ → ℕ → Type 0
CountsAtMost costs before after = (cost : ℕ) × costs cost × (after ≤ before + cost)

-- a run that is stopped may be so before its first state, which leaves the count; else these count at most
abbrev pub CountsStopped : (ℕ → Type 0) → ℕ → ℕ → Type 0
CountsStopped costs before after = (after ≡ before) ⊎ CountsAtMost costs before after

-- what a status says of the count of steps, by the visits: these exactly where no evaluation faults, and at most these where one does;
-- a script that is refused, a write that fails and want of memory may stop a run at any state, and what else stops one leaves the count
abbrev pub CountsBy : (ℕ → Type 0) → Status → ℕ → ℕ → Type 0
CountsBy costs Clean before after = CountsAll costs before after
CountsBy costs Findings before after = CountsAll costs before after
CountsBy costs Faulted before after = CountsAtMost costs before after
CountsBy costs ScriptRefused before after = CountsStopped costs before after
CountsBy costs WriteFault before after = CountsStopped costs before after
CountsBy costs Memory before after = CountsStopped costs before after
CountsBy costs status before after = after ≡ before
