-- The typed tree that a value of the program stands for.
use Rattle.std.specs.Prelude.{List, [], ◌∷◌, map}
use Rattle.xp_typed_tree.specs.declared.expr.TypedExpr.{TypedExpr}
use Rattle.xp_typed_tree.specs.declared.expr.Compared.{Compared}
use Rattle.xp_typed_tree.specs.declared.expr.Combined.{Combined}
use Rattle.xp_typed_tree.specs.declared.expr.TypedStart.{TypedStart}
use Rattle.xp_typed_tree.specs.declared.expr.TypedStep.{TypedStep, out-TypedStep}
use Rattle.xp_typed_tree.specs.declared.pattern.TypedPath.{TypedPath}
use Rattle.xp_typed_tree.specs.declared.pattern.TypedPatternStep.{TypedPatternStep}
use Rattle.xp_typed_tree.specs.declared.expr.TypedExpr.TheFolds.{fold-TypedExpr, fold-Compared, fold-Combined, fold-TypedStart, fold-TypedStep}
use Rattle.xp_typed_tree.specs.declared.expr.TypedExpr.TheOpen.{TypedExpr-F, Compared-F, Combined-F, TypedStart-F, TypedStep-F}
use Rattle.xp_typed_tree.specs.TypedTree.{TypedTree, TypedPatternStepTree, TypedPathTree, TypedPlace, TypedSteps, Comparands, Combinands, TypedTrees, disjunction, conjunction, comparison, arithmetic, negation, union, location, selection, slot, text, whole, application, at_root, at_context, at_nodes, no_more_steps, typed_step, no_comparands, comparand, no_combinands, combinand, no_typed, typed}

abbrev pub typed_of : List TypedTree → TypedTrees
typed_of [] = no_typed
typed_of (t ∷ ts) = typed t (typed_of ts)

abbrev pub typed_steps_of : List (TypedSteps → TypedSteps) → TypedSteps
typed_steps_of [] = no_more_steps
typed_steps_of (s ∷ ss) = s (typed_steps_of ss)

abbrev pub comparands_of : List (Comparands → Comparands) → Comparands
comparands_of [] = no_comparands
comparands_of (c ∷ cs) = c (comparands_of cs)

abbrev pub combinands_of : List (Combinands → Combinands) → Combinands
combinands_of [] = no_combinands
combinands_of (c ∷ cs) = c (combinands_of cs)

-- one layer each, whose parts are already seen as trees
abbrev pub expr_seen : TypedExpr-F TypedTree TypedPlace (Combinands → Combinands) (Comparands → Comparands) (TypedSteps → TypedSteps) → TypedTree
expr_seen (TypedExpr-F.Or es) = disjunction (typed_of es.items)
expr_seen (TypedExpr-F.And es) = conjunction (typed_of es.items)
expr_seen (TypedExpr-F.Compare first rest) = comparison first.value (comparands_of rest.items)
expr_seen (TypedExpr-F.Arith first rest) = arithmetic first.value (combinands_of rest.items)
expr_seen (TypedExpr-F.Negate count operand) = negation count operand.value
expr_seen (TypedExpr-F.Union es) = union (typed_of es.items)
expr_seen (TypedExpr-F.Path start steps) = location start (typed_steps_of steps.items)
expr_seen (TypedExpr-F.Filter base predicates) = selection base.value (typed_of predicates.items)
expr_seen (TypedExpr-F.Variable place type) = slot place type
expr_seen (TypedExpr-F.Literal value) = text value
expr_seen (TypedExpr-F.Number value) = whole value
expr_seen (TypedExpr-F.Call function args) = application function (typed_of args.items)

abbrev pub compared_seen : Compared-F TypedTree TypedPlace (Combinands → Combinands) (Comparands → Comparands) (TypedSteps → TypedSteps) → Comparands → Comparands
compared_seen c rest = comparand c.operator c.expr rest

abbrev pub combined_seen : Combined-F TypedTree TypedPlace (Combinands → Combinands) (Comparands → Comparands) (TypedSteps → TypedSteps) → Combinands → Combinands
combined_seen c rest = combinand c.operator c.expr rest

abbrev pub start_seen : TypedStart-F TypedTree TypedPlace (Combinands → Combinands) (Comparands → Comparands) (TypedSteps → TypedSteps) → TypedPlace
start_seen TypedStart-F.Root = at_root
start_seen TypedStart-F.Here = at_context
start_seen (TypedStart-F.From base) = at_nodes base.value

abbrev pub step_seen : TypedStep-F TypedTree TypedPlace (Combinands → Combinands) (Comparands → Comparands) (TypedSteps → TypedSteps) → TypedSteps → TypedSteps
step_seen s rest = typed_step s.axis s.test (typed_of s.predicates.items) rest

-- the tree of an expression
unfoldable pub typed_tree_of : TypedExpr → TypedTree
typed_tree_of =
    fold-TypedExpr TypedTree TypedPlace (Combinands → Combinands) (Comparands → Comparands) (TypedSteps → TypedSteps) expr_seen start_seen combined_seen compared_seen step_seen

-- an operand before others
unfoldable pub compared_of : Compared → Comparands → Comparands
compared_of =
    fold-Compared TypedTree TypedPlace (Combinands → Combinands) (Comparands → Comparands) (TypedSteps → TypedSteps) expr_seen start_seen combined_seen compared_seen step_seen

unfoldable pub combined_of : Combined → Combinands → Combinands
combined_of =
    fold-Combined TypedTree TypedPlace (Combinands → Combinands) (Comparands → Comparands) (TypedSteps → TypedSteps) expr_seen start_seen combined_seen compared_seen step_seen

-- where a path begins
unfoldable pub place_of : TypedStart → TypedPlace
place_of =
    fold-TypedStart TypedTree TypedPlace (Combinands → Combinands) (Comparands → Comparands) (TypedSteps → TypedSteps) expr_seen start_seen combined_seen compared_seen step_seen

-- a step before others
unfoldable pub typed_step_of : TypedStep → TypedSteps → TypedSteps
typed_step_of =
    fold-TypedStep TypedTree TypedPlace (Combinands → Combinands) (Comparands → Comparands) (TypedSteps → TypedSteps) expr_seen start_seen combined_seen compared_seen step_seen

-- the trees of a list of expressions
abbrev pub typed_seen : List TypedExpr → TypedTrees
typed_seen es = typed_of (map typed_tree_of es)

-- the operands of a list
abbrev pub compared_list_seen : List Compared → Comparands
compared_list_seen cs = comparands_of (map compared_of cs)

abbrev pub combined_list_seen : List Combined → Combinands
combined_list_seen cs = combinands_of (map combined_of cs)

-- the steps of a list
abbrev pub typed_steps_seen : List TypedStep → TypedSteps
typed_steps_seen ss = typed_steps_of (map typed_step_of ss)

-- a step of a path pattern
abbrev pub pattern_step_seen : TypedPatternStep → TypedPatternStepTree
pattern_step_seen p = record {
  join = p.join;
  axis = (out-TypedStep p.step).axis;
  test = (out-TypedStep p.step).test;
  predicates = typed_seen (out-TypedStep p.step).predicates.items;
}

abbrev pub path_seen : TypedPath → TypedPathTree
path_seen p = record { from_root = p.from_root; steps = map pattern_step_seen p.steps.items }

-- the path patterns of a list
abbrev pub paths_seen : List TypedPath → List TypedPathTree
paths_seen ps = map path_seen ps
