-- What a command at its node does to a document, or why it isn't done.
use Rattle.std.specs.Prelude.{◌≡◌, ℕ, true, None}
use Rattle.doc_tree.specs.cell.Cell.{Cell}
use Rattle.doc_tree.specs.Edited.{NamesGrow}
use Rattle.doc_tree.specs.Kinds.{is_document}
use Rattle.doc_tree.specs.Table.{Contents}
use Rattle.doc_edit_laws.specs.Along.{Edit}
use Rattle.name_scopes.specs.Scoping.{InScope}
use Rattle.edit_script.specs.declared.command.Command.{Command}
use Rattle.edit_commands.specs.declared.refusal.ApplyError.{ApplyError}
use Rattle.edit_commands.specs.declared.touched.Touched.{Touched}
use Rattle.edit_commands.specs.Commands.{EditedAt, RefusesAt, refusal_at}
use Rattle.edit_commands.specs.Touched.{holds_cell, touched_at}

-- the command was done: nothing spoke against it, the tree is the new one, and what is kept of it holds the touched cells
pub record Done (before after : Contents) (command : Command) (n : ℕ) (touched : Touched) : Type 0 where
  pub within : refusal_at before command n ≡ None
  pub edited : EditedAt before.nodes command n after.nodes
  pub holds : (c : Cell) → holds_cell after.nodes touched c ≡ touched_at before.nodes command n c
  pub edit : Edit before.nodes after.nodes (touched_at before.nodes command n)
  pub scope : InScope before.nodes → InScope after.nodes

-- the command wasn't done
pub record NotDone (before after : Contents) (command : Command) (n : ℕ) (error : ApplyError) : Type 0 where
  pub refused : RefusesAt before command n error
  pub unchanged : after ≡ before

-- what stays in any case
pub record Keeps (before after : Contents) : Type 0 where
  pub document : is_document after.nodes ≡ true
  pub names : NamesGrow before.names after.names
  pub cap : after.pair_cap ≡ before.pair_cap
