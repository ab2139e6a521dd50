-- The pair cap: an accepted command leaves no more live nodes.
use Rattle.std.specs.Prelude.{◌≡◌, ◌≤◌, true, length, None}
use Rattle.doc_tree.specs.Kinds.{is_document}
use Rattle.doc_tree.specs.Laws.{WellFormed}
use Rattle.doc_tree.specs.Table.{Contents, Table}
use Rattle.doc_tree.specs.Walks.{order}
use Rattle.edit_script.specs.declared.command.Command.{Command}
use Rattle.edit_commands.specs.Commands.{IsEdited, command_refusal}

-- where there were no more live nodes than the pair cap, there are no more after a command against which no reason speaks
abbrev pub EditsStayWithin : Type 0
EditsStayWithin = (tree : Contents) (command : Command) (U : Table) → WellFormed tree.nodes → is_document tree.nodes ≡ true →
    command_refusal tree command ≡ None → IsEdited tree.nodes command U →
    length (order tree.nodes) ≤ tree.pair_cap → length (order U) ≤ tree.pair_cap
