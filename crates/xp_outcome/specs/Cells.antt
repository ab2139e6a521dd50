-- The cells that are read, one by one.
use Rattle.std.specs.Prelude.{ℕ, List, [], ◌∷◌, map, filter}
use Rattle.doc_tree.specs.cell.Cell.{Cell}
use Rattle.doc_tree.specs.cell.Cell.TheVariants.{Name}
use Rattle.doc_tree.specs.declared.axes.Axis.{Axis}
use Rattle.doc_tree.specs.Table.{Table, kind_of}
use Rattle.doc_axes.specs.Axes.{axis_nodes}
use Rattle.doc_axes.specs.NodeTests.{is_principal}
use Rattle.xp_outcome.specs.Evaluation.{Read, cell, names_along, variable}

-- the names of those of some nodes that are of an axis's principal kind (XPath 1.0, section 2.3)
abbrev pub names_on : Table → Axis → List ℕ → List Cell
names_on T axis ns = map Name (filter (λ n. is_principal axis (kind_of T n)) ns)

-- the names along an axis from a node are those of the nodes on it
abbrev pub cells_of : Table → Read → List Cell
cells_of T (cell c) = c ∷ []
cells_of T (names_along axis n) = names_on T axis (axis_nodes T axis n)
cells_of T (variable slot) = []
