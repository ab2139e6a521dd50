-- The faults of types that an expression has, by cases: XPath 1.0, sections 2 to 4. Each part has its faults whatever else is
-- wrong, and `InOrder` says which parts begin earlier: an operator before its right operand (so `6 div 2.5` is refused for
-- `div` by `OperandsFault`), an axis before its node test, a call's name before the number of its arguments and these last.
-- That a node-set is wanted is a fault of an operand that has a type, and so has no fault in it.
use Rattle.std.specs.Prelude.{◌≡◌, ◌⊎◌, ◌<◌, ℕ, Bool, true, false, List, Option, None, Some, codes}
use Rattle.xp_tree.specs.declared.terms.Level.{Level}
use Rattle.xp_tree.specs.declared.terms.Operator.{Operator}
use Rattle.xp_tree.specs.declared.terms.AxisName.{AxisName}
use Rattle.xp_tree.specs.declared.terms.AxisName.TheVariants as names
use Rattle.xp_tree.specs.declared.terms.StepTest.{StepTest}
use Rattle.xp_tree.specs.declared.terms.StepTest.TheVariants as written
use Rattle.xp_tree.specs.Tree.{Tree, PathStart, Steps, Operands, Trees, chain, negated, path, filtered, variable, literal, number, call, root, here, from, no_steps, step, no_operands, operand, no_trees, tree, offset_of}
use Rattle.xp_tree.specs.declared.numbers.TheConstants.{MAX_WHOLE}
use Rattle.xp_tree.specs.Decimals.{decimal_value}
use Rattle.xp_typed_tree.specs.declared.function.Function.{Function}
use Rattle.xp_typed_tree.specs.TypedTree.{TypedTree}
use Rattle.xp_typed_tree.specs.WellTyped.{takes, wants_nodes, may_call, IsWanted}
use Rattle.xp_types.specs.declared.faults.TypeKind.TheVariants as kinds
use Rattle.xp_types.specs.declared.faults.TypeFault.{TypeFault}
use Rattle.xp_types.specs.Scope.{Scope, namespace_of, variable_of}
use Rattle.xp_types.specs.FunctionNames.{function_named, is_left_out}
use Rattle.xp_types.specs.Terms.{is_own, joins_nodes, spelling, has_point, has_colon, number_of_trees}
use Rattle.xp_types.specs.HasType.{HasType}
use Rattle.xp_types.specs.Places.{Place, NoFault, FaultAt, InOrder, IsFirst}

-- an operand isn't a node-set, and one is wanted
abbrev pub NotWanted : Scope → Bool → Tree → Place → TypeFault → Type 0
NotWanted S nodes e = FaultAt ((t : TypedTree) × HasType S e t × ¬ IsWanted nodes t) kinds.NodeSetWanted (offset_of e)

-- the namespace axis is refused
abbrev pub AxisFault : AxisName → ℕ → Place → TypeFault → Type 0
AxisFault axis offset = FaultAt (axis ≡ names.Namespace) (kinds.Refused (codes "namespace")) offset

-- an operator is refused where it has no meaning at its level: division, and an operator of another level
abbrev pub OperatorFault : Level → Operator → ℕ → Place → TypeFault → Type 0
OperatorFault level operator offset = FaultAt (is_own level operator ≡ false) (kinds.Refused (spelling operator)) offset

-- the prefix of a name test
abbrev pub prefix_of : StepTest → Option (List ℕ)
prefix_of (written.InPrefix prefix) = Some prefix
prefix_of (written.Named prefix local) = prefix
prefix_of _ = None

abbrev pub TestFault : Scope → StepTest → ℕ → Place → TypeFault → Type 0
TestFault S t offset = FaultAt ((prefix : List ℕ) × (prefix_of t ≡ Some prefix) × (namespace_of S prefix ≡ None)) kinds.UnknownPrefix offset

abbrev pub NumberFault : List ℕ → ℕ → Place → TypeFault → Type 0
NumberFault digits offset = InOrder
    (FaultAt (has_point digits ≡ true) (kinds.Refused (codes "fraction")) offset)
    (FaultAt ((has_point digits ≡ false) × (MAX_WHOLE < decimal_value digits)) kinds.NumberTooLarge offset)

-- a name that is refused: it has a prefix, is left out here, or names a function that may not be called here
abbrev pub IsRefused : Scope → List ℕ → Type 0
IsRefused S name = (has_colon name ≡ true)
    ⊎ (((function_named name ≡ None) × (is_left_out name ≡ true))
    ⊎ ((f : Function) × (function_named name ≡ Some f) × (may_call S.in_pattern f ≡ false)))

abbrev pub IsUnknown : List ℕ → Type 0
IsUnknown name = (has_colon name ≡ false) × (function_named name ≡ None) × (is_left_out name ≡ false)

-- the function takes another number of arguments
abbrev pub TakesOthers : List ℕ → ℕ → Type 0
TakesOthers name count = (f : Function) × (function_named name ≡ Some f) × (takes f count ≡ false)

abbrev pub CallFault : Scope → List ℕ → ℕ → ℕ → Place → TypeFault → Type 0
CallFault S name offset count = InOrder (FaultAt (IsRefused S name) (kinds.Refused name) offset)
    (InOrder (FaultAt (IsUnknown name) kinds.UnknownFunction offset) (FaultAt (TakesOthers name count) kinds.Arity offset))

-- whether the arguments of a function are node-sets, where it is known
abbrev pub wanted_by : Option Function → Bool
wanted_by (Some f) = wants_nodes f
wanted_by None = false

abbrev mutual
  pub HasFault : Scope → Tree → Place → TypeFault → Type 0
  HasFault S (chain level offset first rest) p f = InOrder (InOrder (HasFault S first) (NotWanted S (joins_nodes level) first)) (OperandsFault S level rest) p f
  HasFault S (negated offset count e) p f = HasFault S e p f
  HasFault S (path offset start steps) p f = InOrder (StartFault S start) (StepsFault S steps) p f
  HasFault S (filtered offset base predicates) p f = InOrder (InOrder (HasFault S base) (NotWanted S true base)) (AllFault S false predicates) p f
  HasFault S (variable offset name) p f = FaultAt (variable_of S.variables name ≡ None) kinds.UnknownVariable offset p f
  HasFault S (literal offset value) p f = NoFault p f
  HasFault S (number offset digits) p f = NumberFault digits offset p f
  HasFault S (call offset name args) p f = InOrder (CallFault S name offset (number_of_trees args)) (AllFault S (wanted_by (function_named name)) args) p f

  pub StartFault : Scope → PathStart → Place → TypeFault → Type 0
  StartFault S root p f = NoFault p f
  StartFault S here p f = NoFault p f
  StartFault S (from base) p f = InOrder (HasFault S base) (NotWanted S true base) p f

  pub StepsFault : Scope → Steps → Place → TypeFault → Type 0
  StepsFault S no_steps p f = NoFault p f
  StepsFault S (step offset axis node_test test_offset predicates rest) p f =
      InOrder (AxisFault axis offset) (InOrder (TestFault S node_test test_offset) (InOrder (AllFault S false predicates) (StepsFault S rest))) p f

  -- the later operands of a chain, each with the operator before it
  pub OperandsFault : Scope → Level → Operands → Place → TypeFault → Type 0
  OperandsFault S level no_operands p f = NoFault p f
  OperandsFault S level (operand operator offset e rest) p f =
      InOrder (OperatorFault level operator offset) (InOrder (InOrder (HasFault S e) (NotWanted S (joins_nodes level) e)) (OperandsFault S level rest)) p f

  pub AllFault : Scope → Bool → Trees → Place → TypeFault → Type 0
  AllFault S nodes no_trees p f = NoFault p f
  AllFault S nodes (tree e es) p f = InOrder (InOrder (HasFault S e) (NotWanted S nodes e)) (AllFault S nodes es) p f

-- the first fault of an expression
abbrev pub IsFirstTypeFault : Scope → Tree → TypeFault → Type 0
IsFirstTypeFault S e f = IsFirst (HasFault S e) f
