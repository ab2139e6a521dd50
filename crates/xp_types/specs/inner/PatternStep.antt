-- The types of one step of a path pattern.
use Rattle.std.specs.Prelude.{false, Ok}
use Rattle.xp_tree.specs.PatternTree.{StepTree}
use Rattle.xp_typed_tree.specs.TypedTree.{TypedPatternStepTree}
use Rattle.xp_types.specs.Scope.{Scope}
use Rattle.xp_types.specs.Terms.{pattern_axis}
use Rattle.xp_types.specs.inner.Checked.{Checked, after}
use Rattle.xp_types.specs.inner.Typing.{resolved, all_typed}

abbrev pub pattern_step_typed : Scope → StepTree → Checked TypedPatternStepTree
pattern_step_typed S s =
    after (resolved S s.test s.test_offset) (λ n. after (all_typed S false s.predicates)
    (λ ps. Ok (record { join = s.join; axis = pattern_axis s.is_attribute; test = n; predicates = ps })))
