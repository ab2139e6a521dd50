-- Expressions without the places where their parts begin: XPath 1.0, sections 2 and 3.
use Rattle.xp_tree.specs.Tree.{Tree, PathStart, Steps, Operands, Trees, chain, negated, path, filtered, variable, literal, number, call, root, here, from, no_steps, step, no_operands, operand, no_trees, tree}

abbrev mutual
  -- the same expression, each of its offsets 0
  pub without_offsets : Tree → Tree
  without_offsets (chain level offset first rest) = chain level 0 (without_offsets first) (operands_without_offsets rest)
  without_offsets (negated offset count e) = negated 0 count (without_offsets e)
  without_offsets (path offset start steps) = path 0 (start_without_offsets start) (steps_without_offsets steps)
  without_offsets (filtered offset base predicates) = filtered 0 (without_offsets base) (trees_without_offsets predicates)
  without_offsets (variable offset name) = variable 0 name
  without_offsets (literal offset value) = literal 0 value
  without_offsets (number offset digits) = number 0 digits
  without_offsets (call offset name args) = call 0 name (trees_without_offsets args)

  pub start_without_offsets : PathStart → PathStart
  start_without_offsets root = root
  start_without_offsets here = here
  start_without_offsets (from base) = from (without_offsets base)

  pub steps_without_offsets : Steps → Steps
  steps_without_offsets no_steps = no_steps
  steps_without_offsets (step offset axis node_test test_offset predicates rest) =
      step 0 axis node_test 0 (trees_without_offsets predicates) (steps_without_offsets rest)

  pub operands_without_offsets : Operands → Operands
  operands_without_offsets no_operands = no_operands
  operands_without_offsets (operand operator offset e rest) = operand operator 0 (without_offsets e) (operands_without_offsets rest)

  pub trees_without_offsets : Trees → Trees
  trees_without_offsets no_trees = no_trees
  trees_without_offsets (tree e es) = tree (without_offsets e) (trees_without_offsets es)
