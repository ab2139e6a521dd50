-- Expressions as trees without places in memory: XPath 1.0, sections 2 and 3. A number is an offset in bytes, but for
-- the count of signs.
use Rattle.std.specs.Prelude.{ℕ, List}
use Rattle.xp_tree.specs.declared.terms.Level.{Level}
use Rattle.xp_tree.specs.declared.terms.Operator.{Operator}
use Rattle.xp_tree.specs.declared.terms.AxisName.{AxisName}
use Rattle.xp_tree.specs.declared.terms.StepTest.{StepTest}

mutual
  pub data Tree : Type 0 where
    -- two or more operands of one level: the offset, the first one, the others
    chain : Level → ℕ → Tree → Operands → Tree
    -- the offset, the count of minus signs, the operand
    negated : ℕ → ℕ → Tree → Tree
    path : ℕ → PathStart → Steps → Tree
    -- the offset, the base, the predicates
    filtered : ℕ → Tree → Trees → Tree
    variable : ℕ → List ℕ → Tree
    literal : ℕ → List ℕ → Tree
    -- the offset and the spelling
    number : ℕ → List ℕ → Tree
    -- the offset, the name, the arguments
    call : ℕ → List ℕ → Trees → Tree

  pub data PathStart : Type 0 where
    root : PathStart
    here : PathStart
    from : Tree → PathStart

  pub data Steps : Type 0 where
    no_steps : Steps
    -- the offset, the axis, the node test with its offset, the predicates; the steps after it
    step : ℕ → AxisName → StepTest → ℕ → Trees → Steps → Steps

  pub data Operands : Type 0 where
    no_operands : Operands
    -- the operator with its offset, the operand; those after it
    operand : Operator → ℕ → Tree → Operands → Operands

  pub data Trees : Type 0 where
    no_trees : Trees
    tree : Tree → Trees → Trees

-- where an expression begins
abbrev pub offset_of : Tree → ℕ
offset_of (chain level offset first rest) = offset
offset_of (negated offset count inner) = offset
offset_of (path offset start steps) = offset
offset_of (filtered offset base predicates) = offset
offset_of (variable offset name) = offset
offset_of (literal offset value) = offset
offset_of (number offset digits) = offset
offset_of (call offset name args) = offset
