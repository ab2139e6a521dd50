-- The checks that the code makes, as one value: a typed tree, or the first fault. Each part is checked where nothing before it is
-- at fault. That this is what an expression has by cases is proved; no public clause names it.
use Rattle.std.specs.Prelude.{ℕ, pos, Bool, true, false, List, [], ◌∷◌, Option, None, Some, Ok, if◌then◌else◌, nat_le, codes}
use Rattle.doc_tree.specs.declared.axes.Axis.{Axis}
use Rattle.doc_tree.specs.declared.axes.Axis.TheVariants as axes
use Rattle.doc_tree.specs.declared.axes.NodeTest.{NodeTest}
use Rattle.doc_tree.specs.declared.axes.NodeTest.TheVariants as tests
use Rattle.xp_tree.specs.declared.terms.Level.{Level}
use Rattle.xp_tree.specs.declared.terms.Level.TheVariants as levels
use Rattle.xp_tree.specs.declared.terms.Operator.{Operator}
use Rattle.xp_tree.specs.declared.terms.AxisName.{AxisName}
use Rattle.xp_tree.specs.declared.terms.AxisName.TheVariants as names
use Rattle.xp_tree.specs.declared.terms.StepTest.{StepTest}
use Rattle.xp_tree.specs.declared.terms.StepTest.TheVariants as written
use Rattle.xp_tree.specs.declared.pattern.PatternStart.{PatternStart}
use Rattle.xp_tree.specs.declared.pattern.PatternStart.TheVariants as starts
use Rattle.xp_tree.specs.Tree.{Tree, PathStart, Steps, Operands, Trees, chain, negated, path, filtered, variable, literal, number, call, root, here, from, no_steps, step, no_operands, operand, no_trees, tree, offset_of}
use Rattle.xp_tree.specs.PatternTree.{PathTree, StepTree}
use Rattle.xp_tree.specs.declared.numbers.TheConstants.{MAX_WHOLE}
use Rattle.xp_tree.specs.Decimals.{decimal_value}
use Rattle.xp_typed_tree.specs.declared.value_type.ValueType.{ValueType}
use Rattle.xp_typed_tree.specs.declared.value_type.ValueType.TheVariants as types
use Rattle.xp_typed_tree.specs.declared.function.Function.{Function}
use Rattle.xp_typed_tree.specs.TypedTree.{TypedTree, TypedPlace, TypedSteps, Comparands, Combinands, TypedTrees, TypedPatternStepTree, TypedPathTree, disjunction, conjunction, arithmetic, negation, union, location, selection, slot, text, whole, application, at_root, at_context, at_nodes, no_more_steps, typed_step, no_comparands, comparand, no_combinands, combinand, no_typed, typed}
use Rattle.xp_typed_tree.specs.WellTyped.{type_of, takes, wants_nodes, may_call}
use Rattle.xp_types.specs.declared.env.Variable.{Variable}
use Rattle.xp_types.specs.declared.faults.TypeKind.TheVariants as kinds
use Rattle.xp_types.specs.Scope.{Scope, namespace_of, variable_of}
use Rattle.xp_types.specs.Terms.{has_point, has_colon, comparison_of, arithmetic_of, joins, joins_nodes, spelling, compared_with, number_of_trees, pattern_axis}
use Rattle.xp_types.specs.FunctionNames.{function_named, is_left_out}
use Rattle.xp_types.specs.inner.Checked.{Checked, after, fault}

-- a whole number that isn't too large
abbrev pub number_typed : List ℕ → ℕ → Checked TypedTree
number_typed digits offset =
    if has_point digits then fault (kinds.Refused (codes "fraction")) offset
    else (if nat_le (decimal_value digits) MAX_WHOLE then Ok (whole (pos (decimal_value digits))) else fault kinds.NumberTooLarge offset)

-- a node-set, where that is wanted
abbrev pub node_set_at : ValueType → ℕ → TypedTree → Checked TypedTree
node_set_at types.NodeSet offset t = Ok t
node_set_at _ offset t = fault kinds.NodeSetWanted offset

abbrev pub wanted : Bool → ℕ → TypedTree → Checked TypedTree
wanted true offset t = node_set_at (type_of t) offset t
wanted false offset t = Ok t

-- an operator has no meaning where it stands
abbrev pub or_refused : {A : Type 0} → Option A → Operator → ℕ → Checked A
or_refused (Some a) operator offset = Ok a
or_refused None operator offset = fault (kinds.Refused (spelling operator)) offset

abbrev pub if_joins : {A : Type 0} → Bool → Operator → ℕ → Checked A → Checked A
if_joins true operator offset next = next
if_joins false operator offset next = fault (kinds.Refused (spelling operator)) offset

-- the namespace axis is refused
abbrev pub axis_of : AxisName → ℕ → Checked Axis
axis_of names.Ancestor offset = Ok axes.Ancestor
axis_of names.AncestorOrSelf offset = Ok axes.AncestorOrSelf
axis_of names.Attribute offset = Ok axes.Attribute
axis_of names.Child offset = Ok axes.Child
axis_of names.Descendant offset = Ok axes.Descendant
axis_of names.DescendantOrSelf offset = Ok axes.DescendantOrSelf
axis_of names.Following offset = Ok axes.Following
axis_of names.FollowingSibling offset = Ok axes.FollowingSibling
axis_of names.Namespace offset = fault (kinds.Refused (codes "namespace")) offset
axis_of names.Parent offset = Ok axes.Parent
axis_of names.Preceding offset = Ok axes.Preceding
axis_of names.PrecedingSibling offset = Ok axes.PrecedingSibling
axis_of names.SelfNode offset = Ok axes.SelfNode

-- the namespace of a name test's prefix
abbrev pub known : Option (List ℕ) → ℕ → Checked (List ℕ)
known (Some uri) offset = Ok uri
known None offset = fault kinds.UnknownPrefix offset

-- a node test with its prefix resolved; a name without a prefix has no namespace: XPath 1.0, section 2.3
abbrev pub resolved : Scope → StepTest → ℕ → Checked NodeTest
resolved S written.Star offset = Ok tests.Star
resolved S (written.InPrefix prefix) offset = after (known (namespace_of S prefix) offset) (λ uri. Ok (tests.InNamespace uri))
resolved S (written.Named None local) offset = Ok (tests.Named [] local)
resolved S (written.Named (Some prefix) local) offset = after (known (namespace_of S prefix) offset) (λ uri. Ok (tests.Named uri local))
resolved S written.Node offset = Ok tests.Any
resolved S written.Chars offset = Ok tests.Text
resolved S written.Comment offset = Ok tests.Comment
resolved S written.Pi offset = Ok tests.Pi
resolved S (written.PiNamed target) offset = Ok (tests.PiNamed target)

abbrev pub variable_typed : Option Variable → ℕ → Checked TypedTree
variable_typed (Some v) offset = Ok (slot v.slot v.ty)
variable_typed None offset = fault kinds.UnknownVariable offset

-- the function that a call names, where it may be called with so many arguments
abbrev pub function_called : Scope → List ℕ → ℕ → ℕ → Option Function → Checked Function
function_called S name offset count (Some f) =
    if may_call S.in_pattern f then (if takes f count then Ok f else fault kinds.Arity offset) else fault (kinds.Refused name) offset
function_called S name offset count None = if is_left_out name then fault (kinds.Refused name) offset else fault kinds.UnknownFunction offset

-- a name with a prefix is refused
abbrev pub called : Scope → List ℕ → ℕ → ℕ → Checked Function
called S name offset count =
    if has_colon name then fault (kinds.Refused name) offset else function_called S name offset count (function_named name)

abbrev mutual
  -- the typed tree of an expression, or its first fault
  pub typing : Scope → Tree → Checked TypedTree
  typing S (chain levels.Or offset first rest) = after (typing S first) (λ t. after (operands_typed S levels.Or rest) (λ ts. Ok (disjunction (typed t ts))))
  typing S (chain levels.And offset first rest) = after (typing S first) (λ t. after (operands_typed S levels.And rest) (λ ts. Ok (conjunction (typed t ts))))
  typing S (chain levels.Equal offset first rest) = after (typing S first) (λ t. after (comparands_typed S levels.Equal rest) (λ cs. Ok (compared_with t cs)))
  typing S (chain levels.Rel offset first rest) = after (typing S first) (λ t. after (comparands_typed S levels.Rel rest) (λ cs. Ok (compared_with t cs)))
  typing S (chain levels.Sum offset first rest) = after (typing S first) (λ t. after (combinands_typed S levels.Sum rest) (λ cs. Ok (arithmetic t cs)))
  typing S (chain levels.Prod offset first rest) = after (typing S first) (λ t. after (combinands_typed S levels.Prod rest) (λ cs. Ok (arithmetic t cs)))
  typing S (chain levels.Union offset first rest) =
      after (after (typing S first) (wanted true (offset_of first))) (λ t. after (operands_typed S levels.Union rest) (λ ts. Ok (union (typed t ts))))
  typing S (negated offset count e) = after (typing S e) (λ t. Ok (negation count t))
  typing S (path offset start steps) = after (place_typed S start) (λ place. after (steps_typed S steps) (λ ss. Ok (location place ss)))
  typing S (filtered offset base predicates) =
      after (after (typing S base) (wanted true (offset_of base))) (λ b. after (all_typed S false predicates) (λ ps. Ok (selection b ps)))
  typing S (variable offset name) = variable_typed (variable_of S.variables name) offset
  typing S (literal offset value) = Ok (text value)
  typing S (number offset digits) = number_typed digits offset
  typing S (call offset name args) =
      after (called S name offset (number_of_trees args)) (λ f. after (all_typed S (wants_nodes f) args) (λ ts. Ok (application f ts)))

  pub place_typed : Scope → PathStart → Checked TypedPlace
  place_typed S root = Ok at_root
  place_typed S here = Ok at_context
  place_typed S (from base) = after (after (typing S base) (wanted true (offset_of base))) (λ t. Ok (at_nodes t))

  pub steps_typed : Scope → Steps → Checked TypedSteps
  steps_typed S no_steps = Ok no_more_steps
  steps_typed S (step offset axis test test_offset predicates rest) =
      after (axis_of axis offset) (λ a. after (resolved S test test_offset) (λ n. after (all_typed S false predicates) (λ ps. after (steps_typed S rest) (λ ss. Ok (typed_step a n ps ss)))))

  -- the later operands of a chain, node-sets where these are wanted
  pub operands_typed : Scope → Level → Operands → Checked TypedTrees
  operands_typed S level no_operands = Ok no_typed
  operands_typed S level (operand operator at e rest) =
      after (if_joins (joins level operator) operator at (after (typing S e) (wanted (joins_nodes level) (offset_of e)))) (λ t. after (operands_typed S level rest) (λ ts. Ok (typed t ts)))

  pub comparands_typed : Scope → Level → Operands → Checked Comparands
  comparands_typed S level no_operands = Ok no_comparands
  comparands_typed S level (operand operator at e rest) =
      after (or_refused (comparison_of level operator) operator at) (λ o. after (typing S e) (λ t. after (comparands_typed S level rest) (λ cs. Ok (comparand o t cs))))

  pub combinands_typed : Scope → Level → Operands → Checked Combinands
  combinands_typed S level no_operands = Ok no_combinands
  combinands_typed S level (operand operator at e rest) =
      after (or_refused (arithmetic_of level operator) operator at) (λ o. after (typing S e) (λ t. after (combinands_typed S level rest) (λ cs. Ok (combinand o t cs))))

  -- expressions in a list, node-sets where these are wanted
  pub all_typed : Scope → Bool → Trees → Checked TypedTrees
  all_typed S nodes no_trees = Ok no_typed
  all_typed S nodes (tree e es) = after (after (typing S e) (wanted nodes (offset_of e))) (λ t. after (all_typed S nodes es) (λ ts. Ok (typed t ts)))

-- the operands of a chain, the first one and the others
abbrev pub chain_typed : Scope → Level → Tree → Operands → Checked TypedTrees
chain_typed S level first rest =
    after (after (typing S first) (wanted (joins_nodes level) (offset_of first))) (λ t. after (operands_typed S level rest) (λ ts. Ok (typed t ts)))

-- a later operand of a chain
abbrev pub joined_typed : Scope → Level → Operator → ℕ → Tree → Checked TypedTree
joined_typed S level operator at e = if_joins (joins level operator) operator at (after (typing S e) (wanted (joins_nodes level) (offset_of e)))

abbrev pub comparison_typed : Scope → Level → Tree → Operands → Checked TypedTree
comparison_typed S level first rest = after (typing S first) (λ t. after (comparands_typed S level rest) (λ cs. Ok (compared_with t cs)))

abbrev pub arithmetic_typed : Scope → Level → Tree → Operands → Checked TypedTree
arithmetic_typed S level first rest = after (typing S first) (λ t. after (combinands_typed S level rest) (λ cs. Ok (arithmetic t cs)))

-- `id` and `key` are refused: XSLT 1.0, section 5.2
abbrev pub pattern_start : PatternStart → ℕ → Checked Bool
pattern_start starts.Here offset = Ok false
pattern_start starts.Root offset = Ok true
pattern_start (starts.Id value) offset = fault (kinds.Refused (codes "id")) offset
pattern_start (starts.Key name value) offset = fault (kinds.Refused (codes "key")) offset

abbrev pub pattern_steps_typed : Scope → List StepTree → Checked (List TypedPatternStepTree)
pattern_steps_typed S [] = Ok []
pattern_steps_typed S (s ∷ ss) =
    after (resolved S s.test s.test_offset) (λ n. after (all_typed S false s.predicates)
    (λ ps. after (pattern_steps_typed S ss) (λ rest. Ok (record { join = s.join; axis = pattern_axis s.is_attribute; test = n; predicates = ps } ∷ rest))))

-- the typed trees of a pattern's path patterns, or its first fault
abbrev pub pattern_typing : Scope → List PathTree → Checked (List TypedPathTree)
pattern_typing S [] = Ok []
pattern_typing S (p ∷ ps) =
    after (pattern_start p.start p.offset) (λ from_root. after (pattern_steps_typed S p.steps)
    (λ steps. after (pattern_typing S ps) (λ rest. Ok (record { from_root = from_root; steps = steps } ∷ rest))))
