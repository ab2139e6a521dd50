-- Where a step leads, by parents: a candidate of a step hangs from the node at which it is one (XSLT 1.0, section 5.2).
use Rattle.std.specs.Prelude.{ℕ, Bool, not, ◌&&◌, List, Option, None, filter, if◌then◌else◌}
use Rattle.std.specs.List.{list_any, filter_map}
use Rattle.doc_tree.specs.declared.axes.Axis.{Axis}
use Rattle.doc_tree.specs.declared.axes.Axis.TheVariants as axes
use Rattle.doc_tree.specs.Table.{Table, parent_of}
use Rattle.doc_axes.specs.Axes.{is_attribute}
use Rattle.doc_axes.specs.NodeTests.{passes}
use Rattle.xp_typed_tree.specs.TypedTree.{TypedPatternStepTree}
use Rattle.xslt_ways.specs.Ways.{looks_at}

-- attributes stand on the attribute axis, and the others on the child axis
abbrev pub is_beside : Axis → Bool → Bool
is_beside axes.Attribute attribute = attribute
is_beside _ attribute = not attribute

-- whether a node is a candidate of the step at its parent
abbrev pub fits : Table → TypedPatternStepTree → ℕ → Bool
fits T s k = is_beside s.axis (is_attribute T k) && passes T s.axis s.test k

-- the node at which a node is a candidate of the step
abbrev pub holder : Table → TypedPatternStepTree → ℕ → Option ℕ
holder T s k = if fits T s k then parent_of T k else None

-- the nodes of a way from which the step looks for candidates where some nodes are candidates
abbrev pub leading_to : Table → TypedPatternStepTree → List ℕ → List ℕ → List ℕ
leading_to T s ks way = filter (λ m. list_any (looks_at T s.join m) (filter_map (holder T s) ks)) way
