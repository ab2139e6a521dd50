-- Commands, done on a session one after another.
use Rattle.std.specs.Prelude.{◌≡◌, Bool, List, ◌∷◌, ◌++◌, All, drop}
use Rattle.doc_tree.specs.cell.Cell.{Cell}
use Rattle.doc_edit_laws.specs.Along.{Edits}
use Rattle.name_scopes.specs.Scoping.{InScope}
use Rattle.edit_script.specs.declared.command.Command.{Command}
use Rattle.edit_script.specs.declared.command.Command.TheVariants.{Insert, Delete, SetText, SetAttr, UnsetAttr, Rename, RenameAttr}
use Rattle.edit_commands.specs.Commands.{RefusesCommand}
use Rattle.edit_commands.specs.declared.refusal.ApplyError.TheVariants.{Memory}
use Rattle.edit_iso_laws.specs.CommandsMove.{DoneInTurn}
use Rattle.edit_session.specs.Steps.{Marks}
use Rattle.edit_session.specs.Standing.{Standing, seen_by}
use Rattle.sch_undo.specs.InTurn.{TouchesInTurn}

-- a command that gives no node another name
abbrev pub KeepsNames : Command → Type 0
KeepsNames (Insert path at piece) = Unit {0}
KeepsNames (Delete path) = Unit {0}
KeepsNames (SetText path text) = Unit {0}
KeepsNames (SetAttr path name value) = Unit {0}
KeepsNames (UnsetAttr path name) = Unit {0}
KeepsNames (Rename path name) = ⊥
KeepsNames (RenameAttr path old name) = ⊥

-- of some commands none but the first does: so those that read a name that is touched are told by the tree before all of them
abbrev pub NamesFirst : List Command → Type 0
NamesFirst commands = All KeepsNames (drop 1 commands)

-- all were done
pub record Did (old : Standing) (commands : List Command) (new : Standing) : Type 0 where
  pub done : DoneInTurn old.tree commands new.tree
  pub touched : Cell → Bool
  pub in_turn : TouchesInTurn old.tree.nodes commands new.tree.nodes touched
  pub edits : Edits old.tree.nodes new.tree.nodes touched
  pub marks : Marks old.tree.nodes touched (seen_by old) (seen_by new)
  pub plan : new.plan ≡ old.plan
  pub cap : new.tree.pair_cap ≡ old.tree.pair_cap
  pub scope : InScope old.tree.nodes → InScope new.tree.nodes

-- the first ones were done, and the next one wants memory
pub record Stopped (old : Standing) (commands : List Command) (new : Standing) : Type 0 where
  pub front : List Command
  pub command : Command
  pub back : List Command
  pub is : commands ≡ front ++ command ∷ back
  pub did : Did old front new
  pub wanted : RefusesCommand new.tree command Memory
