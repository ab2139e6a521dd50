-- Typed trees name the slots of variables in scope.
use Rattle.std.proofs.Common.{ℕ, Bool, false, List, [], ◌∷◌, ◌++◌, subst}
use Rattle.xp_tree.specs.declared.terms.Level.{Level}
use Rattle.xp_tree.specs.declared.terms.Level.TheVariants as levels
use Rattle.xp_tree.specs.PatternTree.{PathTree, StepTree}
use Rattle.xp_tree.specs.Tree.{Tree, PathStart, Steps, Operands, Trees, chain, negated, path, filtered, variable, literal, number, call, root, here, from, no_steps, step, no_operands, operand, no_trees, tree}
use Rattle.xp_typed_tree.specs.declared.value_type.ValueType.{ValueType}
use Rattle.xp_typed_tree.specs.TypedTree.{TypedTree, TypedPlace, TypedSteps, Comparands, Combinands, TypedTrees, TypedPatternStepTree, TypedPathTree, no_comparands, comparand}
use Rattle.xp_typed_tree.specs.Slots.{slots_in, slots_in_place, slots_in_steps, slots_in_comparands, slots_in_combinands, slots_in_all, slots_in_pattern_steps, slots_in_paths}
use Rattle.xp_typed_tree.specs.WellTyped.{wants_nodes}
use Rattle.xp_types.specs.Scope.{Scope}
use Rattle.xp_types.specs.Terms.{compared_with}
use Rattle.xp_types.specs.HasType.{HasType, StartHasType, StepsHaveTypes, OperandsHaveTypes, ComparandsHaveTypes, CombinandsHaveTypes, AllHaveTypes}
use Rattle.xp_types.specs.PatternTypes.{PatternStepsHaveTypes, PatternHasType}
use Rattle.xp_types.specs.SlotsInScope.{AreVariables}

both : (S : Scope) (xs ys : List (ℕ × ValueType)) → AreVariables S xs → AreVariables S ys → AreVariables S (xs ++ ys)
both S [] ys a b = b
both S (x ∷ xs) ys a b = (a.0, both S xs ys a.1 b)

compared-known : (S : Scope) (t : TypedTree) (cs : Comparands) → AreVariables S (slots_in t) → AreVariables S (slots_in_comparands cs) → AreVariables S (slots_in (compared_with t cs))
compared-known S t no_comparands a b = a
compared-known S t (comparand o u cs) a b = both S (slots_in t) (slots_in_comparands (comparand o u cs)) a b

mutual
  pub slots-known : (S : Scope) (e : Tree) (u : TypedTree) → HasType S e u → AreVariables S (slots_in u)
  slots-known S (chain levels.Or offset first rest) u h =
      subst (λ x. AreVariables S (slots_in x)) h.4 (both S (slots_in h.0) (slots_in_all h.1) (slots-known S first h.0 h.2) (operands-known S levels.Or rest h.1 h.3))
  slots-known S (chain levels.And offset first rest) u h =
      subst (λ x. AreVariables S (slots_in x)) h.4 (both S (slots_in h.0) (slots_in_all h.1) (slots-known S first h.0 h.2) (operands-known S levels.And rest h.1 h.3))
  slots-known S (chain levels.Equal offset first rest) u h =
      subst (λ x. AreVariables S (slots_in x)) h.4 (compared-known S h.0 h.1 (slots-known S first h.0 h.2) (comparands-known S levels.Equal rest h.1 h.3))
  slots-known S (chain levels.Rel offset first rest) u h =
      subst (λ x. AreVariables S (slots_in x)) h.4 (compared-known S h.0 h.1 (slots-known S first h.0 h.2) (comparands-known S levels.Rel rest h.1 h.3))
  slots-known S (chain levels.Sum offset first rest) u h =
      subst (λ x. AreVariables S (slots_in x)) h.4 (both S (slots_in h.0) (slots_in_combinands h.1) (slots-known S first h.0 h.2) (combinands-known S levels.Sum rest h.1 h.3))
  slots-known S (chain levels.Prod offset first rest) u h =
      subst (λ x. AreVariables S (slots_in x)) h.4 (both S (slots_in h.0) (slots_in_combinands h.1) (slots-known S first h.0 h.2) (combinands-known S levels.Prod rest h.1 h.3))
  slots-known S (chain levels.Union offset first rest) u h =
      subst (λ x. AreVariables S (slots_in x)) h.5 (both S (slots_in h.0) (slots_in_all h.1) (slots-known S first h.0 h.2) (operands-known S levels.Union rest h.1 h.4))
  slots-known S (negated offset count e) u h = subst (λ x. AreVariables S (slots_in x)) h.2 (slots-known S e h.0 h.1)
  slots-known S (path offset start steps) u h =
      subst (λ x. AreVariables S (slots_in x)) h.4 (both S (slots_in_place h.0) (slots_in_steps h.1) (start-known S start h.0 h.2) (steps-known S steps h.1 h.3))
  slots-known S (filtered offset base predicates) u h =
      subst (λ x. AreVariables S (slots_in x)) h.5 (both S (slots_in h.0) (slots_in_all h.1) (slots-known S base h.0 h.2) (all-known S false predicates h.1 h.4))
  slots-known S (variable offset name) u h = subst (λ x. AreVariables S (slots_in x)) h.2 ((name, h.1), tt)
  slots-known S (literal offset value) u h = subst (λ x. AreVariables S (slots_in x)) h tt
  slots-known S (number offset digits) u h = subst (λ x. AreVariables S (slots_in x)) h.2 tt
  slots-known S (call offset name args) u h = subst (λ x. AreVariables S (slots_in x)) h.4 (all-known S (wants_nodes h.0) args h.1 h.3)

  start-known : (S : Scope) (p : PathStart) (u : TypedPlace) → StartHasType S p u → AreVariables S (slots_in_place u)
  start-known S root u h = subst (λ x. AreVariables S (slots_in_place x)) h tt
  start-known S here u h = subst (λ x. AreVariables S (slots_in_place x)) h tt
  start-known S (from base) u h = subst (λ x. AreVariables S (slots_in_place x)) h.3 (slots-known S base h.0 h.1)

  steps-known : (S : Scope) (ss : Steps) (us : TypedSteps) → StepsHaveTypes S ss us → AreVariables S (slots_in_steps us)
  steps-known S no_steps us h = subst (λ x. AreVariables S (slots_in_steps x)) h tt
  steps-known S (step offset axis node_test test_offset predicates rest) us h =
      subst (λ x. AreVariables S (slots_in_steps x)) h.8 (both S (slots_in_all h.2) (slots_in_steps h.3) (all-known S false predicates h.2 h.6) (steps-known S rest h.3 h.7))

  operands-known : (S : Scope) (level : Level) (os : Operands) (us : TypedTrees) → OperandsHaveTypes S level os us → AreVariables S (slots_in_all us)
  operands-known S level no_operands us h = subst (λ x. AreVariables S (slots_in_all x)) h tt
  operands-known S level (operand o offset e rest) us h =
      subst (λ x. AreVariables S (slots_in_all x)) h.6 (both S (slots_in h.0) (slots_in_all h.1) (slots-known S e h.0 h.3) (operands-known S level rest h.1 h.5))

  comparands-known : (S : Scope) (level : Level) (os : Operands) (us : Comparands) → ComparandsHaveTypes S level os us → AreVariables S (slots_in_comparands us)
  comparands-known S level no_operands us h = subst (λ x. AreVariables S (slots_in_comparands x)) h tt
  comparands-known S level (operand o offset e rest) us h =
      subst (λ x. AreVariables S (slots_in_comparands x)) h.6 (both S (slots_in h.1) (slots_in_comparands h.2) (slots-known S e h.1 h.4) (comparands-known S level rest h.2 h.5))

  combinands-known : (S : Scope) (level : Level) (os : Operands) (us : Combinands) → CombinandsHaveTypes S level os us → AreVariables S (slots_in_combinands us)
  combinands-known S level no_operands us h = subst (λ x. AreVariables S (slots_in_combinands x)) h tt
  combinands-known S level (operand o offset e rest) us h =
      subst (λ x. AreVariables S (slots_in_combinands x)) h.6 (both S (slots_in h.1) (slots_in_combinands h.2) (slots-known S e h.1 h.4) (combinands-known S level rest h.2 h.5))

  all-known : (S : Scope) (nodes : Bool) (es : Trees) (us : TypedTrees) → AllHaveTypes S nodes es us → AreVariables S (slots_in_all us)
  all-known S nodes no_trees us h = subst (λ x. AreVariables S (slots_in_all x)) h tt
  all-known S nodes (tree e es) us h =
      subst (λ x. AreVariables S (slots_in_all x)) h.5 (both S (slots_in h.0) (slots_in_all h.1) (slots-known S e h.0 h.2) (all-known S nodes es h.1 h.4))

pattern-steps-known : (S : Scope) (ss : List StepTree) (us : List TypedPatternStepTree) → PatternStepsHaveTypes S ss us → AreVariables S (slots_in_pattern_steps us)
pattern-steps-known S [] us h = subst (λ x. AreVariables S (slots_in_pattern_steps x)) h tt
pattern-steps-known S (s ∷ ss) us h =
    subst (λ x. AreVariables S (slots_in_pattern_steps x)) h.6
    (both S (slots_in_all h.1) (slots_in_pattern_steps h.2) (all-known S false s.predicates h.1 h.4) (pattern-steps-known S ss h.2 h.5))

pub pattern-slots-known : (S : Scope) (ps : List PathTree) (us : List TypedPathTree) → PatternHasType S ps us → AreVariables S (slots_in_paths us)
pattern-slots-known S [] us h = subst (λ x. AreVariables S (slots_in_paths x)) h tt
pattern-slots-known S (p ∷ ps) us h =
    subst (λ x. AreVariables S (slots_in_paths x)) h.6
    (both S (slots_in_pattern_steps h.1) (slots_in_paths h.2) (pattern-steps-known S p.steps h.1 h.4) (pattern-slots-known S ps h.2 h.5))
