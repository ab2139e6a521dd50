-- The cells that commands touch, one after another.
use Rattle.std.specs.Prelude.{Bool, false, ◌||◌, List, [], ◌∷◌, ◌++◌}
use Rattle.doc_tree.specs.cell.Cell.{Cell}
use Rattle.doc_tree.specs.Table.{Table}
use Rattle.edit_script.specs.declared.command.Command.{Command}
use Rattle.edit_commands.specs.Commands.{IsEdited}
use Rattle.edit_commands.specs.Touched.{touched_by}

-- commands that made a table of another, and all cells that they touched: each by the table before it
pub data TouchesInTurn (T : Table) : List Command → Table → (Cell → Bool) → Type 0 where
  none : TouchesInTurn T [] T (λ _. false)
  then : (commands : List Command) (command : Command) (U V : Table) (touched : Cell → Bool) → TouchesInTurn T commands U touched →
      IsEdited U command V →
      TouchesInTurn T (commands ++ command ∷ []) V (λ c. touched c || touched_by U command c)
