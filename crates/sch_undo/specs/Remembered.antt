-- A document under a plan, and the newest edits that can be undone.
use Rattle.std.specs.Prelude.{◌≡◌, ℕ, ◌+◌, ◌<◌, ◌≤◌, Bool, List, [], ◌∷◌, ◌++◌, length, take, Some}
use Rattle.doc_tree.specs.cell.Cell.{Cell}
use Rattle.doc_tree.specs.Table.{Contents}
use Rattle.doc_tree.specs.limits.TheConstants.{MAX_NODE_NUMBERS}
use Rattle.edit_commands.specs.Commands.{RefusesCommand, command_refusal}
use Rattle.edit_commands.specs.declared.refusal.ApplyError.{ApplyError}
use Rattle.edit_commands.specs.declared.refusal.ApplyError.TheVariants as apply
use Rattle.edit_paths.specs.Entries.{undoing, undoing_numbers}
use Rattle.edit_iso_laws.specs.CommandsMove.{DoneInTurn}
use Rattle.edit_script.specs.declared.command.Command.{Command}
use Rattle.edit_session.specs.Dirty.{dirty_units}
use Rattle.edit_session.specs.Running.{IsFresh, to_run}
use Rattle.edit_session.specs.Steps.{Marks}
use Rattle.edit_session.specs.Standing.{Standing, seen_by}
use Rattle.history_laws.specs.Histories.{StandsFor}
use Rattle.undo_entries.specs.declared.entry.Entry.{Entry}
use Rattle.sch_undo.specs.InTurn.{TouchesInTurn}
use Rattle.sch_undo.specs.declared.error.UndoError.{UndoError}
use Rattle.sch_undo.specs.declared.error.UndoError.TheVariants.{NoHistory, IdsSpent, Memory}

pub record Remembered : Type 0 where
  pub session : Standing
  -- the newest first
  pub entries : List Entry
  pub depth : ℕ

-- the trees to which undoing goes back, the newest first
abbrev pub GoesBackTo : Remembered → List Contents → Type 0
GoesBackTo history trees = StandsFor history.session.tree history.entries trees

-- the newest entry is then what takes the command back, and the oldest is left out where they are more than the depth
pub record Remembers (old : Remembered) (command : Command) (new : Remembered) : Type 0 where
  pub entry : Entry
  pub commands : entry.commands ≡ undoing old.session.tree.nodes command
  pub numbers : entry.numbers ≡ undoing_numbers old.session.tree.nodes command
  pub entries : new.entries ≡ take old.depth (entry ∷ old.entries)

-- why a command is not done: memory is free
abbrev pub RefusesEdit : Remembered → Command → ApplyError → Type 0
RefusesEdit history command (apply.Refused found) = command_refusal history.session.tree command ≡ Some found
RefusesEdit history command apply.Memory = Unit {0}

-- the newest entry, where the numbers that were made and those that it needs are such
pub record Newest (history : Remembered) (IsSuch : ℕ → Type 0) : Type 0 where
  pub entry : Entry
  pub others : List Entry
  pub is : history.entries ≡ entry ∷ others
  pub numbers : IsSuch (length history.session.tree.nodes + entry.numbers)

-- why an edit is not undone
abbrev pub RefusesUndo : Remembered → UndoError → Type 0
RefusesUndo history NoHistory = history.entries ≡ []
RefusesUndo history IdsSpent = Newest history (λ count. MAX_NODE_NUMBERS < count)
RefusesUndo history Memory = Newest history (λ count. count ≤ MAX_NODE_NUMBERS)

-- the newest edit was undone: its entry is gone, its commands were done, and as many numbers were made as it needs
pub record Undone (old new : Remembered) : Type 0 where
  pub newest : Newest old (λ count. (count ≤ MAX_NODE_NUMBERS) × (length new.session.tree.nodes ≡ count))
  pub dropped : new.entries ≡ newest.others
  pub done : DoneInTurn old.session.tree newest.entry.commands new.session.tree

-- the cells that the commands of the newest entry touch, each by the table before it; where all units were done before, those are to
-- be run then that these left dirty
pub record RunsDirty (old new : Remembered) : Type 0 where
  pub entry : Entry
  pub others : List Entry
  pub is : old.entries ≡ entry ∷ others
  pub touched : Cell → Bool
  pub in_turn : TouchesInTurn old.session.tree.nodes entry.commands new.session.tree.nodes touched
  pub marks : Marks old.session.tree.nodes touched (seen_by old.session) (seen_by new.session)
  pub run : IsFresh old.session.plan old.session.tree.nodes (seen_by old.session) →
      to_run old.session.plan new.session.tree.nodes (seen_by new.session) ≡
      dirty_units old.session.plan old.session.tree.nodes new.session.tree.nodes touched

-- memory was wanted: the tree stands after the first commands of the entry, and no edit is kept
pub record StoppedIn (old new : Remembered) : Type 0 where
  pub entry : Entry
  pub others : List Entry
  pub is : old.entries ≡ entry ∷ others
  pub front : List Command
  pub command : Command
  pub back : List Command
  pub commands : entry.commands ≡ front ++ command ∷ back
  pub done : DoneInTurn old.session.tree front new.session.tree
  -- the next one may want memory
  pub wanted : RefusesCommand new.session.tree command apply.Memory
  pub forgotten : new.entries ≡ []

-- what stands then
abbrev pub LeavesUndo : Remembered → Remembered → UndoError → Type 0
LeavesUndo old new NoHistory = new ≡ old
LeavesUndo old new IdsSpent = new ≡ old
LeavesUndo old new Memory = StoppedIn old new
