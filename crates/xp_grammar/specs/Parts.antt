-- What the productions of XPath 1.0 join their parts to.
use Rattle.std.specs.Prelude.{ℕ, zero, suc, if◌then◌else◌, List, [], ◌∷◌, None, Some}
use Rattle.std.specs.List.{list_any, before_first, after_first}
use Rattle.sch_base.specs.Names.{is_colon}
use Rattle.xp_tree.specs.declared.terms.Level.{Level}
use Rattle.xp_tree.specs.declared.terms.Level.TheVariants as level
use Rattle.xp_tree.specs.declared.terms.Operator.{Operator}
use Rattle.xp_tree.specs.declared.terms.Operator.TheVariants as operator
use Rattle.xp_tree.specs.declared.terms.AxisName.TheVariants as axis
use Rattle.xp_tree.specs.declared.terms.StepTest.{StepTest}
use Rattle.xp_tree.specs.declared.terms.StepTest.TheVariants as test
use Rattle.xp_tree.specs.Tree.{Tree, Steps, Operands, Trees, chain, negated, path, filtered, from, no_steps, step, no_operands, operand, no_trees, tree}
use Rattle.xp_grammar.specs.declared.token.Placed.{Placed}
use Rattle.xp_grammar.specs.declared.token.NodeType.{NodeType}
use Rattle.xp_grammar.specs.declared.token.NodeType.TheVariants as node_type

-- where the first of the tokens stands
abbrev pub offset_at : List Placed → ℕ
offset_at [] = 0
offset_at (p ∷ s) = p.offset

-- the level of the chains that an operator joins: sections 3.3 to 3.5
abbrev pub level_of : Operator → Level
level_of operator.Or = level.Or
level_of operator.And = level.And
level_of operator.Equal = level.Equal
level_of operator.NotEqual = level.Equal
level_of operator.Less = level.Rel
level_of operator.AtMost = level.Rel
level_of operator.Greater = level.Rel
level_of operator.AtLeast = level.Rel
level_of operator.Plus = level.Sum
level_of operator.Minus = level.Sum
level_of operator.Times = level.Prod
level_of operator.Div = level.Prod
level_of operator.Mod = level.Prod
level_of operator.Union = level.Union

-- a chain of one operand is that operand
abbrev pub joined : Level → ℕ → Tree → Operands → Tree
joined n offset first no_operands = first
joined n offset first (operand o at second rest) = chain n offset first (operand o at second rest)

-- an operand without a sign is that operand
abbrev pub with_signs : ℕ → ℕ → Tree → Tree
with_signs offset zero inner = inner
with_signs offset (suc count) inner = negated offset (suc count) inner

-- a base without predicates is that base
abbrev pub with_predicates : ℕ → Tree → Trees → Tree
with_predicates offset base no_trees = base
with_predicates offset base (tree first rest) = filtered offset base (tree first rest)

-- a base without steps is that base
abbrev pub with_steps : ℕ → Tree → Steps → Tree
with_steps offset base no_steps = base
with_steps offset base (step o a t at ps rest) = path offset (from base) (step o a t at ps rest)

-- `//` stands for `/descendant-or-self::node()/`: section 2.5
abbrev pub everywhere : ℕ → Steps → Steps
everywhere offset rest = step offset axis.DescendantOrSelf test.Node offset no_trees rest

-- a name as a node test: section 2.3
abbrev pub name_test : List ℕ → StepTest
name_test name =
    if list_any is_colon name then test.Named (Some (before_first is_colon name)) (after_first is_colon name)
    else test.Named None name

-- a node type as a node test
abbrev pub type_test : NodeType → StepTest
type_test node_type.Comment = test.Comment
type_test node_type.Chars = test.Chars
type_test node_type.Pi = test.Pi
type_test node_type.Node = test.Node
