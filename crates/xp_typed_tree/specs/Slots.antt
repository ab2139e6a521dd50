-- The slots that an expression names, each with the type that the expression takes its value for, from left to right.
use Rattle.std.specs.Prelude.{ℕ, List, [], ◌∷◌, ◌++◌}
use Rattle.xp_typed_tree.specs.declared.value_type.ValueType.{ValueType}
use Rattle.xp_typed_tree.specs.TypedTree.{TypedTree, TypedPatternStepTree, TypedPathTree, TypedPlace, TypedSteps, Comparands, Combinands, TypedTrees, disjunction, conjunction, comparison, arithmetic, negation, union, location, selection, slot, text, whole, application, at_root, at_context, at_nodes, no_more_steps, typed_step, no_comparands, comparand, no_combinands, combinand, no_typed, typed}

abbrev mutual
  pub slots_in : TypedTree → List (ℕ × ValueType)
  slots_in (disjunction ts) = slots_in_all ts
  slots_in (conjunction ts) = slots_in_all ts
  slots_in (comparison first rest) = slots_in first ++ slots_in_comparands rest
  slots_in (arithmetic first rest) = slots_in first ++ slots_in_combinands rest
  slots_in (negation count operand) = slots_in operand
  slots_in (union ts) = slots_in_all ts
  slots_in (location place steps) = slots_in_place place ++ slots_in_steps steps
  slots_in (selection base predicates) = slots_in base ++ slots_in_all predicates
  slots_in (slot place type) = (place, type) ∷ []
  slots_in (text value) = []
  slots_in (whole value) = []
  slots_in (application f args) = slots_in_all args

  pub slots_in_place : TypedPlace → List (ℕ × ValueType)
  slots_in_place at_root = []
  slots_in_place at_context = []
  slots_in_place (at_nodes base) = slots_in base

  pub slots_in_steps : TypedSteps → List (ℕ × ValueType)
  slots_in_steps no_more_steps = []
  slots_in_steps (typed_step axis node_test predicates rest) = slots_in_all predicates ++ slots_in_steps rest

  pub slots_in_comparands : Comparands → List (ℕ × ValueType)
  slots_in_comparands no_comparands = []
  slots_in_comparands (comparand operator operand rest) = slots_in operand ++ slots_in_comparands rest

  pub slots_in_combinands : Combinands → List (ℕ × ValueType)
  slots_in_combinands no_combinands = []
  slots_in_combinands (combinand operator operand rest) = slots_in operand ++ slots_in_combinands rest

  pub slots_in_all : TypedTrees → List (ℕ × ValueType)
  slots_in_all no_typed = []
  slots_in_all (typed t ts) = slots_in t ++ slots_in_all ts

-- the slots that the predicates of a pattern name
abbrev pub slots_in_pattern_steps : List TypedPatternStepTree → List (ℕ × ValueType)
slots_in_pattern_steps [] = []
slots_in_pattern_steps (s ∷ ss) = slots_in_all s.predicates ++ slots_in_pattern_steps ss

abbrev pub slots_in_paths : List TypedPathTree → List (ℕ × ValueType)
slots_in_paths [] = []
slots_in_paths (p ∷ ps) = slots_in_pattern_steps p.steps ++ slots_in_paths ps
