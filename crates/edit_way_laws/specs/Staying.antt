-- What stays of a document where a command is accepted (Namespaces in XML 1.0, section 6).
use Rattle.std.specs.Prelude.{◌≡◌, ◌≤◌, length, None}
use Rattle.doc_tree.specs.Laws.{WellFormed}
use Rattle.doc_tree.specs.Table.{Contents, Table}
use Rattle.name_scopes.specs.Scoping.{InScope}
use Rattle.edit_script.specs.WellFormed.{WellFormedCommand}
use Rattle.edit_script.specs.declared.command.Command.{Command}
use Rattle.edit_commands.specs.Commands.{IsEdited, command_refusal}

-- each name keeps the namespace of the nearest declaration of its prefix, after a command that a script can hold, and against which no
-- reason speaks
abbrev pub EditsStayInScope : Type 0
EditsStayInScope = (tree : Contents) (command : Command) (U : Table) → WellFormed tree.nodes → InScope tree.nodes → WellFormedCommand command →
    command_refusal tree command ≡ None → IsEdited tree.nodes command U → InScope U

-- and as many numbers were made, or more
abbrev pub NumbersGrow : Type 0
NumbersGrow = (tree : Contents) (command : Command) (U : Table) → WellFormed tree.nodes →
    command_refusal tree command ≡ None → IsEdited tree.nodes command U → length tree.nodes ≤ length U
