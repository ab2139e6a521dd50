-- What the commands of edit scripts ask for can be done.
use Rattle.std.specs.Prelude.{◌≡◌, ℕ, ◌≤◌, List, length, None, All}
use Rattle.doc_tree.specs.Laws.{WellFormed}
use Rattle.doc_tree.specs.Table.{Contents, Table}
use Rattle.edit_script.specs.declared.command.Command.{Command}
use Rattle.edit_script.specs.declared.limits.TheConstants.{MAX_SCRIPT_BYTES}
use Rattle.edit_script.specs.Script.{script_of}
use Rattle.edit_script.specs.WellFormed.{WellFormedCommand}
use Rattle.edit_commands.specs.Commands.{IsEdited, command_refusal}

-- a well-formed command against which no reason speaks makes a tree
abbrev pub EditsMakeTrees : Type 0
EditsMakeTrees = (tree : Contents) (command : Command) → WellFormed tree.nodes → WellFormedCommand command → command_refusal tree command ≡ None →
    (U : Table) × IsEdited tree.nodes command U

-- each command of a script that is not too long is well formed
abbrev pub ScriptsAreWellFormed : Type 0
ScriptsAreWellFormed = (bytes : List ℕ) → length bytes ≤ MAX_SCRIPT_BYTES → All WellFormedCommand (script_of bytes).commands
