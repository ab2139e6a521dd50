-- How the logic stores typed trees: as binary trees of their parts, from which they are read back.
use Rattle.std.specs.Prelude.{◌≡◌, ℕ, ℤ, Bool, List, [], refl}
use Rattle.std.proofs.Common.{ap, subst, sym}
use Rattle.std.specs.Coded.{Coded, code_by, coded×, coded_list, coded_bool}
use base.Stored.{Gv, gnil, gnum, gcons}
use Rattle.doc_tree.specs.declared.axes.Axis.{Axis}
use Rattle.doc_tree.specs.declared.axes.NodeTest.{NodeTest}
use Rattle.xp_tree.specs.declared.pattern.Join.{Join}
use Rattle.xp_typed_tree.specs.declared.value_type.ValueType.{ValueType}
use Rattle.xp_tree.specs.declared.operators.Comparison.{Comparison}
use Rattle.xp_tree.specs.declared.operators.ArithOp.{ArithOp}
use Rattle.xp_typed_tree.specs.declared.function.Function.{Function}
use Rattle.xp_typed_tree.specs.TypedTree.{TypedTree, TypedPlace, TypedSteps, Comparands, Combinands, TypedTrees, TypedPatternStepTree, TypedPathTree, disjunction, conjunction, comparison, arithmetic, negation, union, location, selection, slot, text, whole, application, at_root, at_context, at_nodes, no_more_steps, typed_step, no_comparands, comparand, no_combinands, combinand, no_typed, typed}

-- binary trees with something at each node
pub data Binary (A : Type 0) : Type 0 where
  leaf : Binary A
  node : A → Binary A → Binary A → Binary A

abbrev head : Gv → Gv
head gnil = gnil
head (gnum n) = gnil
head (gcons a b) = a

abbrev tail : Gv → Gv
tail gnil = gnil
tail (gnum n) = gnil
tail (gcons a b) = b

abbrev IsCons : Gv → Type 0
IsCons gnil = ⊥
IsCons (gnum n) = ⊥
IsCons (gcons a b) = Unit {0}

abbrev pub binary_code : {A : Type 0} → (A → Gv) → Binary A → Gv
binary_code c leaf = gnil
binary_code c (node a l r) = gcons (c a) (gcons (binary_code c l) (binary_code c r))

pub binary_code-inj : {A : Type 0} (a : Coded A) (x y : Binary A) → binary_code a.code x ≡ binary_code a.code y → x ≡ y
binary_code-inj a leaf leaf p = refl
binary_code-inj a (node k l r) (node k' l' r') p =
    λ i. node (a.inj k k' (ap head p) i) (binary_code-inj a l l' (ap (λ g. head (tail g)) p) i) (binary_code-inj a r r' (ap (λ g. tail (tail g)) p) i)
binary_code-inj a leaf (node k l r) p = absurd (subst IsCons (sym p) tt)
binary_code-inj a (node k l r) leaf p = absurd (subst IsCons p tt)

abbrev pub coded_binary : {A : Type 0} → Coded A → Coded (Binary A)
coded_binary a = record { code = binary_code a.code; inj = binary_code-inj a }

-- what stands at a node
pub data Part : Type 0 where
  or_part : Part
  and_part : Part
  compare_part : Part
  arith_part : Part
  negate_part : ℕ → Part
  union_part : Part
  path_part : Part
  filter_part : Part
  slot_part : ℕ → ValueType → Part
  text_part : List ℕ → Part
  whole_part : ℤ → Part
  call_part : Function → Part
  root_part : Part
  context_part : Part
  nodes_part : Part
  step_part : Axis → NodeTest → Part
  comparand_part : Comparison → Part
  combinand_part : ArithOp → Part
  item_part : Part

abbrev mutual
  pub tree_stored : TypedTree → Binary Part
  tree_stored (disjunction ts) = node or_part (trees_stored ts) leaf
  tree_stored (conjunction ts) = node and_part (trees_stored ts) leaf
  tree_stored (comparison first rest) = node compare_part (tree_stored first) (comparands_stored rest)
  tree_stored (arithmetic first rest) = node arith_part (tree_stored first) (combinands_stored rest)
  tree_stored (negation count operand) = node (negate_part count) (tree_stored operand) leaf
  tree_stored (union ts) = node union_part (trees_stored ts) leaf
  tree_stored (location place steps) = node path_part (place_stored place) (steps_stored steps)
  tree_stored (selection base predicates) = node filter_part (tree_stored base) (trees_stored predicates)
  tree_stored (slot place type) = node (slot_part place type) leaf leaf
  tree_stored (text value) = node (text_part value) leaf leaf
  tree_stored (whole value) = node (whole_part value) leaf leaf
  tree_stored (application f args) = node (call_part f) (trees_stored args) leaf

  pub place_stored : TypedPlace → Binary Part
  place_stored at_root = node root_part leaf leaf
  place_stored at_context = node context_part leaf leaf
  place_stored (at_nodes base) = node nodes_part (tree_stored base) leaf

  pub steps_stored : TypedSteps → Binary Part
  steps_stored no_more_steps = leaf
  steps_stored (typed_step axis node_test predicates rest) = node (step_part axis node_test) (trees_stored predicates) (steps_stored rest)

  pub comparands_stored : Comparands → Binary Part
  comparands_stored no_comparands = leaf
  comparands_stored (comparand operator operand rest) = node (comparand_part operator) (tree_stored operand) (comparands_stored rest)

  pub combinands_stored : Combinands → Binary Part
  combinands_stored no_combinands = leaf
  combinands_stored (combinand operator operand rest) = node (combinand_part operator) (tree_stored operand) (combinands_stored rest)

  pub trees_stored : TypedTrees → Binary Part
  trees_stored no_typed = leaf
  trees_stored (typed t ts) = node item_part (tree_stored t) (trees_stored ts)

abbrev mutual
  pub tree_read : Binary Part → TypedTree
  tree_read leaf = text []
  tree_read (node or_part l r) = disjunction (trees_read l)
  tree_read (node and_part l r) = conjunction (trees_read l)
  tree_read (node compare_part l r) = comparison (tree_read l) (comparands_read r)
  tree_read (node arith_part l r) = arithmetic (tree_read l) (combinands_read r)
  tree_read (node (negate_part count) l r) = negation count (tree_read l)
  tree_read (node union_part l r) = union (trees_read l)
  tree_read (node path_part l r) = location (place_read l) (steps_read r)
  tree_read (node filter_part l r) = selection (tree_read l) (trees_read r)
  tree_read (node (slot_part place type) l r) = slot place type
  tree_read (node (text_part value) l r) = text value
  tree_read (node (whole_part value) l r) = whole value
  tree_read (node (call_part f) l r) = application f (trees_read l)
  tree_read (node _ l r) = text []

  pub place_read : Binary Part → TypedPlace
  place_read (node context_part l r) = at_context
  place_read (node nodes_part l r) = at_nodes (tree_read l)
  place_read _ = at_root

  pub steps_read : Binary Part → TypedSteps
  steps_read (node (step_part axis node_test) l r) = typed_step axis node_test (trees_read l) (steps_read r)
  steps_read _ = no_more_steps

  pub comparands_read : Binary Part → Comparands
  comparands_read (node (comparand_part operator) l r) = comparand operator (tree_read l) (comparands_read r)
  comparands_read _ = no_comparands

  pub combinands_read : Binary Part → Combinands
  combinands_read (node (combinand_part operator) l r) = combinand operator (tree_read l) (combinands_read r)
  combinands_read _ = no_combinands

  pub trees_read : Binary Part → TypedTrees
  trees_read (node item_part l r) = typed (tree_read l) (trees_read r)
  trees_read _ = no_typed

mutual
  pub read-tree : (t : TypedTree) → tree_read (tree_stored t) ≡ t
  read-tree (disjunction ts) = ap disjunction (read-trees ts)
  read-tree (conjunction ts) = ap conjunction (read-trees ts)
  read-tree (comparison first rest) = λ i. comparison (read-tree first i) (read-comparands rest i)
  read-tree (arithmetic first rest) = λ i. arithmetic (read-tree first i) (read-combinands rest i)
  read-tree (negation count operand) = ap (negation count) (read-tree operand)
  read-tree (union ts) = ap union (read-trees ts)
  read-tree (location place steps) = λ i. location (read-place place i) (read-steps steps i)
  read-tree (selection base predicates) = λ i. selection (read-tree base i) (read-trees predicates i)
  read-tree (slot place type) = refl
  read-tree (text value) = refl
  read-tree (whole value) = refl
  read-tree (application f args) = ap (application f) (read-trees args)

  pub read-place : (p : TypedPlace) → place_read (place_stored p) ≡ p
  read-place at_root = refl
  read-place at_context = refl
  read-place (at_nodes base) = ap at_nodes (read-tree base)

  pub read-steps : (s : TypedSteps) → steps_read (steps_stored s) ≡ s
  read-steps no_more_steps = refl
  read-steps (typed_step axis node_test predicates rest) = λ i. typed_step axis node_test (read-trees predicates i) (read-steps rest i)

  pub read-comparands : (c : Comparands) → comparands_read (comparands_stored c) ≡ c
  read-comparands no_comparands = refl
  read-comparands (comparand operator operand rest) = λ i. comparand operator (read-tree operand i) (read-comparands rest i)

  pub read-combinands : (c : Combinands) → combinands_read (combinands_stored c) ≡ c
  read-combinands no_combinands = refl
  read-combinands (combinand operator operand rest) = λ i. combinand operator (read-tree operand i) (read-combinands rest i)

  pub read-trees : (ts : TypedTrees) → trees_read (trees_stored ts) ≡ ts
  read-trees no_typed = refl
  read-trees (typed t ts) = λ i. typed (read-tree t i) (read-trees ts i)

abbrev pub tree_code : Coded Part → Coded TypedTree
tree_code part = code_by (Binary Part) (coded_binary part) tree_stored tree_read read-tree

abbrev pub trees_code : Coded Part → Coded TypedTrees
trees_code part = code_by (Binary Part) (coded_binary part) trees_stored trees_read read-trees

abbrev pub pattern_step_code : Coded Part → Coded Join → Coded Axis → Coded NodeTest → Coded TypedPatternStepTree
pattern_step_code part join axis node_test =
    code_by (Join × (Axis × (NodeTest × TypedTrees))) (coded× join (coded× axis (coded× node_test (trees_code part))))
    (λ s. (s.join, (s.axis, (s.test, s.predicates)))) (λ p. record { join = p.0; axis = p.1.0; test = p.1.1.0; predicates = p.1.1.1 }) (λ _. refl)

abbrev pub paths_code : Coded Part → Coded Join → Coded Axis → Coded NodeTest → Coded (List TypedPathTree)
paths_code part join axis node_test =
    coded_list (code_by (Bool × List TypedPatternStepTree) (coded× coded_bool (coded_list (pattern_step_code part join axis node_test)))
    (λ p. (p.from_root, p.steps)) (λ p. record { from_root = p.0; steps = p.1 }) (λ _. refl))
