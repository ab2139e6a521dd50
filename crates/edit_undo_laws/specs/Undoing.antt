-- Commands that take a command back: done after it, they make the tree from before it again.
use Rattle.std.specs.Prelude.{◌≡◌, ℕ, ◌+◌, ◌≤◌, true, List, length, None, Some, All}
use Rattle.pyx_core.specs.declared.event.Event.{Event}
use Rattle.doc_tree.specs.Changes.{Meeting, meeting}
use Rattle.doc_tree.specs.Kinds.{is_document}
use Rattle.doc_tree.specs.Laws.{WellFormed}
use Rattle.doc_tree.specs.SameTree.{SameTree}
use Rattle.doc_tree.specs.Table.{Contents, kids_above, parent_of}
use Rattle.doc_tree.specs.Walks.{order}
use Rattle.doc_tree.specs.limits.TheConstants.{MAX_NODE_NUMBERS}
use Rattle.name_scopes.specs.Scoping.{InScope}
use Rattle.edit_script.specs.declared.command.Command.{Command}
use Rattle.edit_script.specs.declared.command.Command.TheVariants.{Insert, Delete, SetText, SetAttr, UnsetAttr, Rename, RenameAttr}
use Rattle.edit_script.specs.declared.command.PathStep.{PathStep}
use Rattle.edit_script.specs.WellFormed.{WellFormedCommand}
use Rattle.edit_commands.specs.Commands.{IsEdited, command_refusal}
use Rattle.edit_commands.specs.Paths.{node_named}
use Rattle.edit_iso_laws.specs.CommandsMove.{DoneInTurn}
use Rattle.edit_paths.specs.Entries.{undoing, undoing_numbers}

-- commands, done on the tree after an edit, make the same tree as before it, with so many new numbers
pub record TakesBack (before after : Contents) (commands : List Command) (more : ℕ) : Type 0 where
  pub end : Contents
  pub done : DoneInTurn after commands end
  pub same : SameTree before.nodes end.nodes
  pub numbers : length end.nodes ≡ length after.nodes + more

-- a command that was done is taken back by the commands that the tree before it tells
abbrev pub IsUndone : Contents → Contents → Command → Type 0
IsUndone before after command = TakesBack before after (undoing before.nodes command) (undoing_numbers before.nodes command)

-- an insert is taken back by a delete of the node that came
abbrev pub InsertsAreUndone : Type 0
InsertsAreUndone = (before after : Contents) (path : List PathStep) (at : ℕ) (events : List Event) → WellFormed before.nodes → is_document before.nodes ≡ true →
    command_refusal before (Insert path at events) ≡ None → IsEdited before.nodes (Insert path at events) after.nodes →
    IsUndone before after (Insert path at events)

-- another text is taken back by the text that the node said before
abbrev pub TextsAreUndone : Type 0
TextsAreUndone = (before after : Contents) (path : List PathStep) (new : List ℕ) (n : ℕ) → WellFormed before.nodes → node_named before.nodes path ≡ Some n →
    command_refusal before (SetText path new) ≡ None → IsEdited before.nodes (SetText path new) after.nodes → IsUndone before after (SetText path new)

-- an attribute that was set has its old value again, or goes where it came
abbrev pub SettingsAreUndone : Type 0
SettingsAreUndone = (before after : Contents) (path : List PathStep) (name value : List ℕ) (n : ℕ) → WellFormed before.nodes → node_named before.nodes path ≡ Some n →
    command_refusal before (SetAttr path name value) ≡ None → IsEdited before.nodes (SetAttr path name value) after.nodes → IsUndone before after (SetAttr path name value)

-- an attribute that was unset comes again, where enough numbers are left
abbrev pub UnsettingsAreUndone : Type 0
UnsettingsAreUndone = (before after : Contents) (path : List PathStep) (name : List ℕ) (n : ℕ) → WellFormed before.nodes → InScope before.nodes →
    length (order before.nodes) ≤ before.pair_cap → node_named before.nodes path ≡ Some n →
    command_refusal before (UnsetAttr path name) ≡ None → IsEdited before.nodes (UnsetAttr path name) after.nodes → after.pair_cap ≡ before.pair_cap →
    length after.nodes + undoing_numbers before.nodes (UnsetAttr path name) ≤ MAX_NODE_NUMBERS → IsUndone before after (UnsetAttr path name)

-- an element that was renamed has its own name again
abbrev pub RenamesAreUndone : Type 0
RenamesAreUndone = (before after : Contents) (path : List PathStep) (name : List ℕ) (n : ℕ) → WellFormed before.nodes → InScope before.nodes →
    node_named before.nodes path ≡ Some n → command_refusal before (Rename path name) ≡ None → IsEdited before.nodes (Rename path name) after.nodes →
    IsUndone before after (Rename path name)

-- and so has an attribute
abbrev pub AttributeRenamesAreUndone : Type 0
AttributeRenamesAreUndone = (before after : Contents) (path : List PathStep) (old name : List ℕ) (n : ℕ) → WellFormed before.nodes →
    InScope before.nodes → node_named before.nodes path ≡ Some n → command_refusal before (RenameAttr path old name) ≡ None →
    IsEdited before.nodes (RenameAttr path old name) after.nodes → IsUndone before after (RenameAttr path old name)

-- a node that was deleted comes again with all below it, where no two texts met and enough numbers are left
abbrev pub LoneDeletionsAreUndone : Type 0
LoneDeletionsAreUndone = (before after : Contents) (path : List PathStep) (n : ℕ) → WellFormed before.nodes → InScope before.nodes → is_document before.nodes ≡ true →
    length (order before.nodes) ≤ before.pair_cap → node_named before.nodes path ≡ Some n → meeting before.nodes n (kids_above before.nodes (parent_of before.nodes n)) ≡ None →
    command_refusal before (Delete path) ≡ None → IsEdited before.nodes (Delete path) after.nodes → after.pair_cap ≡ before.pair_cap →
    length after.nodes + undoing_numbers before.nodes (Delete path) ≤ MAX_NODE_NUMBERS → IsUndone before after (Delete path)

-- where two texts met, the left one says its own text again, and the node and the right one come again
abbrev pub MergingDeletionsAreUndone : Type 0
MergingDeletionsAreUndone = (before after : Contents) (path : List PathStep) (n : ℕ) (texts : Meeting) → WellFormed before.nodes → InScope before.nodes → is_document before.nodes ≡ true →
    length (order before.nodes) ≤ before.pair_cap → WellFormedCommand (Delete path) → node_named before.nodes path ≡ Some n →
    meeting before.nodes n (kids_above before.nodes (parent_of before.nodes n)) ≡ Some texts →
    command_refusal before (Delete path) ≡ None → IsEdited before.nodes (Delete path) after.nodes → after.pair_cap ≡ before.pair_cap →
    length after.nodes + undoing_numbers before.nodes (Delete path) ≤ MAX_NODE_NUMBERS → IsUndone before after (Delete path)

-- each command that was done on a document in scope is taken back, where enough numbers are left
abbrev pub CommandsAreUndone : Type 0
CommandsAreUndone = (before after : Contents) (command : Command) → WellFormed before.nodes → InScope before.nodes → is_document before.nodes ≡ true →
    length (order before.nodes) ≤ before.pair_cap → WellFormedCommand command →
    command_refusal before command ≡ None → IsEdited before.nodes command after.nodes → after.pair_cap ≡ before.pair_cap →
    length after.nodes + undoing_numbers before.nodes command ≤ MAX_NODE_NUMBERS → IsUndone before after command

-- a script can hold them
abbrev pub UndoingsAreFormed : Type 0
UndoingsAreFormed = (before : Contents) (command : Command) → WellFormed before.nodes → InScope before.nodes → WellFormedCommand command →
    command_refusal before command ≡ None → All WellFormedCommand (undoing before.nodes command)
