-- The typed tree of an expression by cases, in no order: XPath 1.0, sections 2 to 4. The operators of a chain are those of its
-- level. An operand of `|`, the base of predicates or of a path, and some arguments are node-sets.
use Rattle.std.specs.Prelude.{◌≡◌, ◌≤◌, pos, Bool, true, false, Some}
use Rattle.doc_tree.specs.declared.axes.Axis.{Axis}
use Rattle.doc_tree.specs.declared.axes.NodeTest.{NodeTest}
use Rattle.xp_tree.specs.declared.terms.Level.{Level}
use Rattle.xp_tree.specs.declared.terms.Level.TheVariants as levels
use Rattle.xp_tree.specs.Tree.{Tree, PathStart, Steps, Operands, Trees, chain, negated, path, filtered, variable, literal, number, call, root, here, from, no_steps, step, no_operands, operand, no_trees, tree}
use Rattle.xp_tree.specs.declared.numbers.TheConstants.{MAX_WHOLE}
use Rattle.xp_tree.specs.Decimals.{decimal_value}
use Rattle.xp_tree.specs.declared.operators.Comparison.{Comparison}
use Rattle.xp_tree.specs.declared.operators.ArithOp.{ArithOp}
use Rattle.xp_typed_tree.specs.declared.function.Function.{Function}
use Rattle.xp_typed_tree.specs.TypedTree.{TypedTree, TypedPlace, TypedSteps, Comparands, Combinands, TypedTrees, disjunction, conjunction, arithmetic, negation, union, location, selection, slot, text, whole, application, at_root, at_context, at_nodes, no_more_steps, typed_step, no_comparands, comparand, no_combinands, combinand, no_typed, typed}
use Rattle.xp_typed_tree.specs.WellTyped.{wants_nodes, IsWanted}
use Rattle.xp_types.specs.declared.env.Variable.{Variable}
use Rattle.xp_types.specs.Scope.{Scope, variable_of}
use Rattle.xp_types.specs.Terms.{has_point, comparison_of, arithmetic_of, joins, joins_nodes, axis_named, test_resolved, MayBeCalled, compared_with, number_of_trees}

abbrev mutual
  pub HasType : Scope → Tree → TypedTree → Type 0
  HasType S (chain levels.Or offset first rest) u = (t : TypedTree) × (ts : TypedTrees) × HasType S first t × OperandsHaveTypes S levels.Or rest ts × (disjunction (typed t ts) ≡ u)
  HasType S (chain levels.And offset first rest) u = (t : TypedTree) × (ts : TypedTrees) × HasType S first t × OperandsHaveTypes S levels.And rest ts × (conjunction (typed t ts) ≡ u)
  HasType S (chain levels.Equal offset first rest) u = (t : TypedTree) × (cs : Comparands) × HasType S first t × ComparandsHaveTypes S levels.Equal rest cs × (compared_with t cs ≡ u)
  HasType S (chain levels.Rel offset first rest) u = (t : TypedTree) × (cs : Comparands) × HasType S first t × ComparandsHaveTypes S levels.Rel rest cs × (compared_with t cs ≡ u)
  HasType S (chain levels.Sum offset first rest) u = (t : TypedTree) × (cs : Combinands) × HasType S first t × CombinandsHaveTypes S levels.Sum rest cs × (arithmetic t cs ≡ u)
  HasType S (chain levels.Prod offset first rest) u = (t : TypedTree) × (cs : Combinands) × HasType S first t × CombinandsHaveTypes S levels.Prod rest cs × (arithmetic t cs ≡ u)
  HasType S (chain levels.Union offset first rest) u =
      (t : TypedTree) × (ts : TypedTrees) × HasType S first t × IsWanted true t × OperandsHaveTypes S levels.Union rest ts × (union (typed t ts) ≡ u)
  HasType S (negated offset count e) u = (t : TypedTree) × HasType S e t × (negation count t ≡ u)
  HasType S (path offset start steps) u = (p : TypedPlace) × (ts : TypedSteps) × StartHasType S start p × StepsHaveTypes S steps ts × (location p ts ≡ u)
  HasType S (filtered offset base predicates) u = (t : TypedTree) × (ts : TypedTrees) × HasType S base t × IsWanted true t × AllHaveTypes S false predicates ts × (selection t ts ≡ u)
  HasType S (variable offset name) u = (v : Variable) × (variable_of S.variables name ≡ Some v) × (slot v.slot v.ty ≡ u)
  HasType S (literal offset value) u = text value ≡ u
  HasType S (number offset digits) u = (has_point digits ≡ false) × (decimal_value digits ≤ MAX_WHOLE) × (whole (pos (decimal_value digits)) ≡ u)
  HasType S (call offset name args) u =
      (f : Function) × (ts : TypedTrees) × MayBeCalled S name (number_of_trees args) f × AllHaveTypes S (wants_nodes f) args ts × (application f ts ≡ u)

  pub StartHasType : Scope → PathStart → TypedPlace → Type 0
  StartHasType S root p = at_root ≡ p
  StartHasType S here p = at_context ≡ p
  StartHasType S (from base) p = (t : TypedTree) × HasType S base t × IsWanted true t × (at_nodes t ≡ p)

  pub StepsHaveTypes : Scope → Steps → TypedSteps → Type 0
  StepsHaveTypes S no_steps ss = no_more_steps ≡ ss
  StepsHaveTypes S (step offset axis node_test test_offset predicates rest) ss =
      (a : Axis) × (n : NodeTest) × (ps : TypedTrees) × (ts : TypedSteps) × (axis_named axis ≡ Some a) × (test_resolved S node_test ≡ Some n) × AllHaveTypes S false predicates ps × StepsHaveTypes S rest ts
      × (typed_step a n ps ts ≡ ss)

  pub OperandsHaveTypes : Scope → Level → Operands → TypedTrees → Type 0
  OperandsHaveTypes S level no_operands us = no_typed ≡ us
  OperandsHaveTypes S level (operand operator offset e rest) us =
      (t : TypedTree) × (ts : TypedTrees) × (joins level operator ≡ true) × HasType S e t × IsWanted (joins_nodes level) t × OperandsHaveTypes S level rest ts × (typed t ts ≡ us)

  pub ComparandsHaveTypes : Scope → Level → Operands → Comparands → Type 0
  ComparandsHaveTypes S level no_operands us = no_comparands ≡ us
  ComparandsHaveTypes S level (operand operator offset e rest) us =
      (o : Comparison) × (t : TypedTree) × (cs : Comparands) × (comparison_of level operator ≡ Some o) × HasType S e t × ComparandsHaveTypes S level rest cs × (comparand o t cs ≡ us)

  pub CombinandsHaveTypes : Scope → Level → Operands → Combinands → Type 0
  CombinandsHaveTypes S level no_operands us = no_combinands ≡ us
  CombinandsHaveTypes S level (operand operator offset e rest) us =
      (o : ArithOp) × (t : TypedTree) × (cs : Combinands) × (arithmetic_of level operator ≡ Some o) × HasType S e t × CombinandsHaveTypes S level rest cs × (combinand o t cs ≡ us)

  pub AllHaveTypes : Scope → Bool → Trees → TypedTrees → Type 0
  AllHaveTypes S nodes no_trees us = no_typed ≡ us
  AllHaveTypes S nodes (tree e es) us = (t : TypedTree) × (ts : TypedTrees) × HasType S e t × IsWanted nodes t × AllHaveTypes S nodes es ts × (typed t ts ≡ us)
