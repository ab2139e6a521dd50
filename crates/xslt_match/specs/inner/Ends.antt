-- Where a path pattern ends.
use Rattle.std.specs.Prelude.{ℕ, Bool, false, not, List, [], ◌∷◌}
use Rattle.doc_tree.specs.Table.{Table}
use Rattle.doc_axes.specs.NodeTests.{passes}
use Rattle.xp_typed_tree.specs.TypedTree.{TypedPatternStepTree}

-- whether the last step's node test refuses a node
abbrev pub ends_elsewhere : Table → List TypedPatternStepTree → ℕ → Bool
ends_elsewhere T [] n = false
ends_elsewhere T (s ∷ []) n = not (passes T s.axis s.test n)
ends_elsewhere T (s ∷ r ∷ ss) n = ends_elsewhere T (r ∷ ss) n
