-- A match pattern read as an expression (XSLT 1.0, section 5.2).
use Rattle.std.specs.Prelude.{Bool, true, false, List, [], ◌∷◌}
use Rattle.doc_tree.specs.declared.axes.Axis.TheVariants as axes
use Rattle.doc_tree.specs.declared.axes.NodeTest.TheVariants as tests
use Rattle.xp_tree.specs.declared.pattern.Join.{Join}
use Rattle.xp_tree.specs.declared.pattern.Join.TheVariants as joins
use Rattle.xp_typed_tree.specs.TypedTree.{TypedTree, TypedTrees, TypedPlace, TypedSteps, TypedPatternStepTree, TypedPathTree, union, location, at_root, at_context, no_more_steps, typed_step, no_typed, typed}

-- after `//` a step stands after `descendant-or-self::node()`
abbrev pub after_join : Join → TypedSteps → TypedSteps
after_join joins.Nothing steps = steps
after_join joins.Slash steps = steps
after_join joins.DoubleSlash steps = typed_step axes.DescendantOrSelf tests.Any no_typed steps

abbrev pub as_steps : List TypedPatternStepTree → TypedSteps
as_steps [] = no_more_steps
as_steps (s ∷ ss) = after_join s.join (typed_step s.axis s.test s.predicates (as_steps ss))

abbrev pub as_place : Bool → TypedPlace
as_place true = at_root
as_place false = at_context

abbrev pub as_paths : List TypedPathTree → TypedTrees
as_paths [] = no_typed
as_paths (p ∷ ps) = typed (location (as_place p.from_root) (as_steps p.steps)) (as_paths ps)

-- the pattern as an expression: the union of its location paths
abbrev pub as_expression : List TypedPathTree → TypedTree
as_expression ps = union (as_paths ps)
