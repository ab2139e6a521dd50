-- A command of an edit script makes one tree.
use Rattle.std.specs.Prelude.{◌≡◌}
use Rattle.doc_tree.specs.Table.{Table}
use Rattle.edit_script.specs.declared.command.Command.{Command}
use Rattle.edit_commands.specs.Commands.{IsEdited}

-- what a command makes of a table is one table
abbrev pub OneEdit : Type 0
OneEdit = (T U V : Table) (command : Command) → IsEdited T command U → IsEdited T command V → U ≡ V
