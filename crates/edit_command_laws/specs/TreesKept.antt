-- An accepted command makes a document of a document.
use Rattle.std.specs.Prelude.{◌≡◌, true, None}
use Rattle.doc_tree.specs.Kinds.{is_document}
use Rattle.doc_tree.specs.Laws.{WellFormed}
use Rattle.doc_tree.specs.Table.{Contents, Table}
use Rattle.edit_script.specs.declared.command.Command.{Command}
use Rattle.edit_commands.specs.Commands.{IsEdited, command_refusal}

-- where no reason speaks against a command, what it makes of a tree is a tree, and a document stays one
abbrev pub EditsKeepTrees : Type 0
EditsKeepTrees = (tree : Contents) (command : Command) (U : Table) → WellFormed tree.nodes → is_document tree.nodes ≡ true →
    command_refusal tree command ≡ None → IsEdited tree.nodes command U → WellFormed U × (is_document U ≡ true)
