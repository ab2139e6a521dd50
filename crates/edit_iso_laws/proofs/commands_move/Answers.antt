-- It names corresponding nodes, and its piece is one.
use Rattle.edit_iso_laws.proofs.CommandLemmas.{commands-move}
use Rattle.edit_iso_laws.proofs.commands_move.Goals as goal

pub returns : goal.returns
returns c = commands-move c.well_formed_is_enough.ensures c.one_table.ensures c.changes_move.ensures c.additions_move.ensures c.paths_move.ensures
    c.renumbered_trees_are_same.ensures c.same_trees_are_renumbered.ensures
