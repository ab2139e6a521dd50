-- The names of the nodes so far stand at the end.
use Rattle.std.proofs.Common.{◌≡◌, ◌++◌, map, take}
use Rattle.doc_tree.specs.cell.Cell.TheVariants.{Name}
use Rattle.xp_cells.proofs.push_each_name.Given as goal

abbrev pub invariant-loop-n : goal.invariant-loop-n
invariant-loop-n l = l.cells ≡ l.initial.cells ++ map Name (take l.n-index l.nodes)
