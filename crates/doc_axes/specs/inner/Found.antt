-- The nodes on an axis in the order in which they are found.
use Rattle.std.specs.Prelude.{ℕ, List}
use Rattle.doc_tree.specs.declared.axes.Axis.{Axis}
use Rattle.doc_tree.specs.declared.axes.Axis.TheVariants.{Preceding, PrecedingSibling}
use Rattle.doc_tree.specs.Table.{Table}
use Rattle.doc_axes.specs.Axes.{axis_order, axis_nodes}

-- in document order on two of the axes that run backwards, and else in the axis's own
abbrev pub found_on : Table → Axis → ℕ → List ℕ
found_on T Preceding n = axis_order T Preceding n
found_on T PrecedingSibling n = axis_order T PrecedingSibling n
found_on T axis n = axis_nodes T axis n
