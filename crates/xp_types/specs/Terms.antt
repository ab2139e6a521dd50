-- What parts that hold no expression stand for: XPath 1.0, sections 2.3, 3.1, 3.4, 3.5 and 4. None where a part is refused or isn't
-- known.
use Rattle.std.specs.Prelude.{◌≡◌, ℕ, Bool, true, false, List, [], Option, None, Some, is_some, option_map, ◌==◌, suc, codes}
use Rattle.std.specs.List.{list_any}
use Rattle.doc_tree.specs.declared.axes.Axis.{Axis}
use Rattle.doc_tree.specs.declared.axes.Axis.TheVariants as axes
use Rattle.doc_tree.specs.declared.axes.NodeTest.{NodeTest}
use Rattle.doc_tree.specs.declared.axes.NodeTest.TheVariants as tests
use Rattle.xp_tree.specs.declared.terms.Level.{Level}
use Rattle.xp_tree.specs.declared.terms.Level.TheVariants as levels
use Rattle.xp_tree.specs.declared.terms.Operator.{Operator}
use Rattle.xp_tree.specs.declared.terms.Operator.TheVariants as operators
use Rattle.xp_tree.specs.declared.terms.AxisName.{AxisName}
use Rattle.xp_tree.specs.declared.terms.AxisName.TheVariants as names
use Rattle.xp_tree.specs.declared.terms.StepTest.{StepTest}
use Rattle.xp_tree.specs.declared.terms.StepTest.TheVariants as written
use Rattle.xp_tree.specs.declared.operators.Comparison.{Comparison}
use Rattle.xp_tree.specs.declared.operators.Comparison.TheVariants as comparisons
use Rattle.xp_tree.specs.declared.operators.ArithOp.{ArithOp}
use Rattle.xp_tree.specs.declared.operators.ArithOp.TheVariants as ariths
use Rattle.xp_tree.specs.Tree.{Trees, no_trees, tree}
use Rattle.xp_typed_tree.specs.declared.function.Function.{Function}
use Rattle.xp_typed_tree.specs.TypedTree.{TypedTree, Comparands, comparison, no_comparands, comparand}
use Rattle.xp_typed_tree.specs.WellTyped.{takes, may_call}
use Rattle.xp_types.specs.Scope.{Scope, namespace_of}
use Rattle.xp_types.specs.FunctionNames.{function_named}

abbrev pub has_point : List ℕ → Bool
has_point digits = list_any (λ c. c == 46) digits

abbrev pub has_colon : List ℕ → Bool
has_colon name = list_any (λ c. c == 58) name

-- the comparison that an operator is at a level
abbrev pub comparison_of : Level → Operator → Option Comparison
comparison_of levels.Equal operators.Equal = Some comparisons.Eq
comparison_of levels.Equal operators.NotEqual = Some comparisons.Ne
comparison_of levels.Rel operators.Less = Some comparisons.Lt
comparison_of levels.Rel operators.AtMost = Some comparisons.Le
comparison_of levels.Rel operators.Greater = Some comparisons.Gt
comparison_of levels.Rel operators.AtLeast = Some comparisons.Ge
comparison_of _ _ = None

-- the operator on numbers at a level; division is refused
abbrev pub arithmetic_of : Level → Operator → Option ArithOp
arithmetic_of levels.Sum operators.Plus = Some ariths.Add
arithmetic_of levels.Sum operators.Minus = Some ariths.Sub
arithmetic_of levels.Prod operators.Times = Some ariths.Mul
arithmetic_of levels.Prod operators.Mod = Some ariths.Mod
arithmetic_of _ _ = None

-- whether an operator joins the operands of a level that keeps no operators
abbrev pub joins : Level → Operator → Bool
joins levels.Or operators.Or = true
joins levels.And operators.And = true
joins levels.Union operators.Union = true
joins _ _ = false

-- whether an operator has a meaning at a level
abbrev pub is_own : Level → Operator → Bool
is_own levels.Or o = joins levels.Or o
is_own levels.And o = joins levels.And o
is_own levels.Equal o = is_some (comparison_of levels.Equal o)
is_own levels.Rel o = is_some (comparison_of levels.Rel o)
is_own levels.Sum o = is_some (arithmetic_of levels.Sum o)
is_own levels.Prod o = is_some (arithmetic_of levels.Prod o)
is_own levels.Union o = joins levels.Union o

-- whether the operands of a level are node-sets
abbrev pub joins_nodes : Level → Bool
joins_nodes levels.Union = true
joins_nodes _ = false

abbrev pub spelling : Operator → List ℕ
spelling operators.Or = codes "or"
spelling operators.And = codes "and"
spelling operators.Equal = codes "="
spelling operators.NotEqual = codes "!="
spelling operators.Less = codes "<"
spelling operators.AtMost = codes "<="
spelling operators.Greater = codes ">"
spelling operators.AtLeast = codes ">="
spelling operators.Plus = codes "+"
spelling operators.Minus = codes "-"
spelling operators.Times = codes "*"
spelling operators.Div = codes "div"
spelling operators.Mod = codes "mod"
spelling operators.Union = codes "|"

-- the axis of a name; the namespace axis is refused
abbrev pub axis_named : AxisName → Option Axis
axis_named names.Ancestor = Some axes.Ancestor
axis_named names.AncestorOrSelf = Some axes.AncestorOrSelf
axis_named names.Attribute = Some axes.Attribute
axis_named names.Child = Some axes.Child
axis_named names.Descendant = Some axes.Descendant
axis_named names.DescendantOrSelf = Some axes.DescendantOrSelf
axis_named names.Following = Some axes.Following
axis_named names.FollowingSibling = Some axes.FollowingSibling
axis_named names.Namespace = None
axis_named names.Parent = Some axes.Parent
axis_named names.Preceding = Some axes.Preceding
axis_named names.PrecedingSibling = Some axes.PrecedingSibling
axis_named names.SelfNode = Some axes.SelfNode

-- a node test with its prefix resolved; a name without a prefix has no namespace: XPath 1.0, section 2.3
abbrev pub test_resolved : Scope → StepTest → Option NodeTest
test_resolved S written.Star = Some tests.Star
test_resolved S (written.InPrefix prefix) = option_map (λ uri. tests.InNamespace uri) (namespace_of S prefix)
test_resolved S (written.Named None local) = Some (tests.Named [] local)
test_resolved S (written.Named (Some prefix) local) = option_map (λ uri. tests.Named uri local) (namespace_of S prefix)
test_resolved S written.Node = Some tests.Any
test_resolved S written.Chars = Some tests.Text
test_resolved S written.Comment = Some tests.Comment
test_resolved S written.Pi = Some tests.Pi
test_resolved S (written.PiNamed target) = Some (tests.PiNamed target)

-- a call's name is that of a function, which may be called here with so many arguments; a name with a prefix is none
abbrev pub MayBeCalled : Scope → List ℕ → ℕ → Function → Type 0
MayBeCalled S name count f = (has_colon name ≡ false) × (function_named name ≡ Some f) × (may_call S.in_pattern f ≡ true) × (takes f count ≡ true)

-- an operand that is compared with later ones; a chain of one operand is that operand
abbrev pub compared_with : TypedTree → Comparands → TypedTree
compared_with t no_comparands = t
compared_with t (comparand operator u cs) = comparison t (comparand operator u cs)

abbrev pub number_of_trees : Trees → ℕ
number_of_trees no_trees = 0
number_of_trees (tree e es) = suc (number_of_trees es)

-- the axis of a step in a pattern: XSLT 1.0, section 5.2
abbrev pub pattern_axis : Bool → Axis
pattern_axis true = axes.Attribute
pattern_axis false = axes.Child
