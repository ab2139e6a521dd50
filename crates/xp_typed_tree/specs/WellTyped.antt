-- What well typed means: XPath 1.0, sections 3 and 4.
use Rattle.std.specs.Prelude.{◌≡◌, ℕ, suc, pos, ◌≤ℤ◌, Bool, true, false, ◌&&◌, not, nat_le, Option, Some, None, List, [], ◌∷◌}
use Rattle.xp_typed_tree.specs.declared.value_type.ValueType.{ValueType}
use Rattle.xp_typed_tree.specs.declared.value_type.ValueType.TheVariants as types
use Rattle.xp_typed_tree.specs.declared.function.Function.{Function}
use Rattle.xp_typed_tree.specs.declared.function.Function.TheVariants.{Last, Position, Current, Count, Sum, LocalName, NamespaceUri, Name, String, Number, Boolean, Not, True, False, Concat, StartsWith, Contains, SubstringBefore, SubstringAfter, Substring, StringLength, NormalizeSpace, Translate, Lang, Floor, Ceiling, Round}
use Rattle.doc_tree.specs.declared.axes.Axis.{Axis}
use Rattle.doc_tree.specs.declared.axes.Axis.TheVariants as axes
use Rattle.xp_tree.specs.declared.numbers.TheConstants.{MAX_WHOLE}
use Rattle.xp_typed_tree.specs.TypedTree.{TypedTree, TypedPatternStepTree, TypedPathTree, TypedPlace, TypedSteps, Comparands, Combinands, TypedTrees, disjunction, conjunction, comparison, arithmetic, negation, union, location, selection, slot, text, whole, application, at_root, at_context, at_nodes, no_more_steps, typed_step, no_comparands, comparand, no_combinands, combinand, no_typed, typed}

-- the type of what a function gives: XPath 1.0, section 4, and XSLT 1.0, section 12.4
abbrev pub result_type : Function → ValueType
result_type Last = types.Number
result_type Position = types.Number
result_type Current = types.NodeSet
result_type Count = types.Number
result_type Sum = types.Number
result_type LocalName = types.Chars
result_type NamespaceUri = types.Chars
result_type Name = types.Chars
result_type String = types.Chars
result_type Number = types.Number
result_type Boolean = types.Truth
result_type Not = types.Truth
result_type True = types.Truth
result_type False = types.Truth
result_type Concat = types.Chars
result_type StartsWith = types.Truth
result_type Contains = types.Truth
result_type SubstringBefore = types.Chars
result_type SubstringAfter = types.Chars
result_type Substring = types.Chars
result_type StringLength = types.Number
result_type NormalizeSpace = types.Chars
result_type Translate = types.Chars
result_type Lang = types.Truth
result_type Floor = types.Number
result_type Ceiling = types.Number
result_type Round = types.Number

-- how few arguments a function takes
abbrev pub fewest : Function → ℕ
fewest Count = 1
fewest Sum = 1
fewest Boolean = 1
fewest Not = 1
fewest Concat = 2
fewest StartsWith = 2
fewest Contains = 2
fewest SubstringBefore = 2
fewest SubstringAfter = 2
fewest Substring = 2
fewest Translate = 3
fewest Lang = 1
fewest Floor = 1
fewest Ceiling = 1
fewest Round = 1
fewest _ = 0

-- how many it takes at most, where that is limited
abbrev pub most : Function → Option ℕ
most Last = Some 0
most Position = Some 0
most Current = Some 0
most True = Some 0
most False = Some 0
most Concat = None
most StartsWith = Some 2
most Contains = Some 2
most SubstringBefore = Some 2
most SubstringAfter = Some 2
most Substring = Some 3
most Translate = Some 3
most _ = Some 1

abbrev pub within : ℕ → Option ℕ → Bool
within count None = true
within count (Some limit) = nat_le count limit

-- whether a function takes so many arguments
abbrev pub takes : Function → ℕ → Bool
takes f count = nat_le (fewest f) count && within count (most f)

-- whether its arguments are node-sets
abbrev pub wants_nodes : Function → Bool
wants_nodes Count = true
wants_nodes Sum = true
wants_nodes LocalName = true
wants_nodes NamespaceUri = true
wants_nodes Name = true
wants_nodes _ = false

-- whether an expression may call it: a pattern calls no `current` (XSLT 1.0, section 12.4)
abbrev pub may_call : Bool → Function → Bool
may_call in_pattern Current = not in_pattern
may_call in_pattern _ = true

-- the type of an expression's value
abbrev pub type_of : TypedTree → ValueType
type_of (disjunction ts) = types.Truth
type_of (conjunction ts) = types.Truth
type_of (comparison first rest) = types.Truth
type_of (arithmetic first rest) = types.Number
type_of (negation count operand) = types.Number
type_of (union ts) = types.NodeSet
type_of (location place steps) = types.NodeSet
type_of (selection base predicates) = types.NodeSet
type_of (slot place type) = type
type_of (text value) = types.Chars
type_of (whole value) = types.Number
type_of (application f args) = result_type f

abbrev pub count_of : TypedTrees → ℕ
count_of no_typed = 0
count_of (typed t ts) = suc (count_of ts)

-- the expression is a node-set, where that is wanted
abbrev pub IsWanted : Bool → TypedTree → Type 0
IsWanted true t = type_of t ≡ types.NodeSet
IsWanted false t = Unit {0}

-- a comparison has two sides: XPath 1.0, section 3.4
abbrev pub Compares : Comparands → Type 0
Compares no_comparands = ⊥
Compares (comparand operator operand rest) = Unit {0}

-- node-sets stand where node-sets are wanted, comparisons have two sides, and calls have the arguments that their
-- functions take
abbrev mutual
  pub WellTyped : Bool → TypedTree → Type 0
  WellTyped p (disjunction ts) = AllTyped p false ts
  WellTyped p (conjunction ts) = AllTyped p false ts
  WellTyped p (comparison first rest) = Compares rest × WellTyped p first × ComparandsTyped p rest
  WellTyped p (arithmetic first rest) = WellTyped p first × CombinandsTyped p rest
  WellTyped p (negation count operand) = WellTyped p operand
  WellTyped p (union ts) = AllTyped p true ts
  WellTyped p (location place steps) = PlaceTyped p place × StepsTyped p steps
  WellTyped p (selection base predicates) = WellTyped p base × (type_of base ≡ types.NodeSet) × AllTyped p false predicates
  WellTyped p (slot place type) = Unit {0}
  WellTyped p (text value) = Unit {0}
  WellTyped p (whole value) = (pos 0 ≤ℤ value) × (value ≤ℤ pos MAX_WHOLE)
  WellTyped p (application f args) = (may_call p f ≡ true) × (takes f (count_of args) ≡ true) × AllTyped p (wants_nodes f) args

  pub PlaceTyped : Bool → TypedPlace → Type 0
  PlaceTyped p at_root = Unit {0}
  PlaceTyped p at_context = Unit {0}
  PlaceTyped p (at_nodes base) = WellTyped p base × (type_of base ≡ types.NodeSet)

  pub StepsTyped : Bool → TypedSteps → Type 0
  StepsTyped p no_more_steps = Unit {0}
  StepsTyped p (typed_step axis node_test predicates rest) = AllTyped p false predicates × StepsTyped p rest

  pub ComparandsTyped : Bool → Comparands → Type 0
  ComparandsTyped p no_comparands = Unit {0}
  ComparandsTyped p (comparand operator operand rest) = WellTyped p operand × ComparandsTyped p rest

  pub CombinandsTyped : Bool → Combinands → Type 0
  CombinandsTyped p no_combinands = Unit {0}
  CombinandsTyped p (combinand operator operand rest) = WellTyped p operand × CombinandsTyped p rest

  -- all the expressions, which are node-sets where these are wanted
  pub AllTyped : Bool → Bool → TypedTrees → Type 0
  AllTyped p wanted no_typed = Unit {0}
  AllTyped p wanted (typed t ts) = WellTyped p t × IsWanted wanted t × AllTyped p wanted ts

-- the axis of a step in a pattern is child or attribute: XSLT 1.0, section 5.2
abbrev pub is_pattern_axis : Axis → Bool
is_pattern_axis axes.Child = true
is_pattern_axis axes.Attribute = true
is_pattern_axis _ = false

abbrev pub PatternStepsTyped : List TypedPatternStepTree → Type 0
PatternStepsTyped [] = Unit {0}
PatternStepsTyped (s ∷ ss) = (is_pattern_axis s.axis ≡ true) × AllTyped true false s.predicates × PatternStepsTyped ss

-- a pattern is well typed: the predicates of its steps are, and call no `current`
abbrev pub PathsTyped : List TypedPathTree → Type 0
PathsTyped [] = Unit {0}
PathsTyped (p ∷ ps) = PatternStepsTyped p.steps × PathsTyped ps
