-- The names of the items so far stand at the end.
use Rattle.std.proofs.Common.{◌≡◌, ◌++◌, take}
use Rattle.std.specs.List.{flat_map}
use Rattle.xp_cells.specs.EveryCell.{names_for}
use Rattle.xp_cells.proofs.push_each_names.Given as goal

abbrev pub invariant-loop-along : goal.invariant-loop-along
invariant-loop-along l = l.cells ≡ l.initial.cells ++ flat_map (names_for l.tree.nodes) (take l.along-index l.items)
