-- The typed trees of a match pattern by cases, in no order: XSLT 1.0, section 5.2. A step's axis is child or attribute; `id` and
-- `key` have no type.
use Rattle.std.specs.Prelude.{◌≡◌, Bool, true, false, List, [], ◌∷◌, Option, None, Some}
use Rattle.doc_tree.specs.declared.axes.NodeTest.{NodeTest}
use Rattle.xp_tree.specs.PatternTree.{PathTree, StepTree}
use Rattle.xp_tree.specs.declared.pattern.PatternStart.{PatternStart}
use Rattle.xp_tree.specs.declared.pattern.PatternStart.TheVariants as starts
use Rattle.xp_typed_tree.specs.TypedTree.{TypedTrees, TypedPatternStepTree, TypedPathTree}
use Rattle.xp_types.specs.Scope.{Scope}
use Rattle.xp_types.specs.Terms.{test_resolved, pattern_axis}
use Rattle.xp_types.specs.HasType.{AllHaveTypes}

-- whether a path pattern begins at the root
abbrev pub begins_at_root : PatternStart → Option Bool
begins_at_root starts.Here = Some false
begins_at_root starts.Root = Some true
begins_at_root (starts.Id value) = None
begins_at_root (starts.Key name value) = None

abbrev pub PatternStepsHaveTypes : Scope → List StepTree → List TypedPatternStepTree → Type 0
PatternStepsHaveTypes S [] us = [] ≡ us
PatternStepsHaveTypes S (s ∷ ss) us =
    (n : NodeTest) × (ps : TypedTrees) × (rest : List TypedPatternStepTree) × (test_resolved S s.test ≡ Some n) × AllHaveTypes S false s.predicates ps × PatternStepsHaveTypes S ss rest
    × (record { join = s.join; axis = pattern_axis s.is_attribute; test = n; predicates = ps } ∷ rest ≡ us)

-- the typed trees of a pattern's path patterns
abbrev pub PatternHasType : Scope → List PathTree → List TypedPathTree → Type 0
PatternHasType S [] us = [] ≡ us
PatternHasType S (p ∷ ps) us =
    (from_root : Bool) × (steps : List TypedPatternStepTree) × (rest : List TypedPathTree) × (begins_at_root p.start ≡ Some from_root) × PatternStepsHaveTypes S p.steps steps × PatternHasType S ps rest
    × (record { from_root = from_root; steps = steps } ∷ rest ≡ us)
