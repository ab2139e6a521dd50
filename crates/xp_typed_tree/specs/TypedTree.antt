-- Expressions with resolved names as trees without places in memory: XPath 1.0, sections 2 to 4.
use Rattle.std.specs.Prelude.{ℕ, ℤ, List, Bool}
use Rattle.doc_tree.specs.declared.axes.Axis.{Axis}
use Rattle.doc_tree.specs.declared.axes.NodeTest.{NodeTest}
use Rattle.xp_tree.specs.declared.pattern.Join.{Join}
use Rattle.xp_typed_tree.specs.declared.value_type.ValueType.{ValueType}
use Rattle.xp_tree.specs.declared.operators.Comparison.{Comparison}
use Rattle.xp_tree.specs.declared.operators.ArithOp.{ArithOp}
use Rattle.xp_typed_tree.specs.declared.function.Function.{Function}

mutual
  pub data TypedTree : Type 0 where
    -- operands joined by `or`, by `and`
    disjunction : TypedTrees → TypedTree
    conjunction : TypedTrees → TypedTree
    -- the first operand and the others, each with the operator before it
    comparison : TypedTree → Comparands → TypedTree
    arithmetic : TypedTree → Combinands → TypedTree
    -- the count of minus signs, the operand
    negation : ℕ → TypedTree → TypedTree
    -- node-sets joined by `|`
    union : TypedTrees → TypedTree
    location : TypedPlace → TypedSteps → TypedTree
    -- the base and the predicates
    selection : TypedTree → TypedTrees → TypedTree
    -- the slot and the type of what it holds
    slot : ℕ → ValueType → TypedTree
    text : List ℕ → TypedTree
    whole : ℤ → TypedTree
    application : Function → TypedTrees → TypedTree

  -- where a path begins
  pub data TypedPlace : Type 0 where
    at_root : TypedPlace
    at_context : TypedPlace
    at_nodes : TypedTree → TypedPlace

  pub data TypedSteps : Type 0 where
    no_more_steps : TypedSteps
    -- the axis, the node test, the predicates; the steps after it
    typed_step : Axis → NodeTest → TypedTrees → TypedSteps → TypedSteps

  pub data Comparands : Type 0 where
    no_comparands : Comparands
    comparand : Comparison → TypedTree → Comparands → Comparands

  pub data Combinands : Type 0 where
    no_combinands : Combinands
    combinand : ArithOp → TypedTree → Combinands → Combinands

  pub data TypedTrees : Type 0 where
    no_typed : TypedTrees
    typed : TypedTree → TypedTrees → TypedTrees

-- a step of a path pattern, with what stands before it
pub record TypedPatternStepTree : Type 0 where
  pub join : Join
  pub axis : Axis
  pub test : NodeTest
  pub predicates : TypedTrees

-- a path pattern
pub record TypedPathTree : Type 0 where
  pub from_root : Bool
  pub steps : List TypedPatternStepTree
