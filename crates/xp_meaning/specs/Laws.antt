-- Laws of evaluation, in the words of XPath 1.0.
use Rattle.std.specs.Prelude.{◌≡◌, ℕ, suc, pos, ◌+◌, true, List, [], ◌∷◌, length, filter, Ok, slice_get, Some}
use Rattle.std.specs.Option.{option_to_list}
use Rattle.doc_tree.specs.declared.axes.Axis.{Axis}
use Rattle.doc_tree.specs.declared.axes.Axis.TheVariants as axes
use Rattle.doc_tree.specs.declared.axes.NodeTest.{NodeTest}
use Rattle.doc_tree.specs.declared.axes.NodeTest.TheVariants as tests
use Rattle.doc_tree.specs.Lists.{mem}
use Rattle.doc_tree.specs.Table.{Table, is_live}
use Rattle.doc_axes.specs.Axes.{axis_nodes}
use Rattle.doc_axes.specs.NodeTests.{passes}
use Rattle.doc_axes.specs.Sets.{IsNodeSet}
use Rattle.xp_typed_tree.specs.declared.function.Function.TheVariants.{Count}
use Rattle.xp_typed_tree.specs.TypedTree.{TypedTree, union, location, whole, application, at_context, no_more_steps, typed_step, no_typed, typed}
use Rattle.xp_outcome.specs.Slots.{in_slot}
use Rattle.xp_values.specs.declared.values.Value.{Value}
use Rattle.xp_values.specs.declared.values.Value.TheVariants.{NodeSet, Truth, Number, Chars}
use Rattle.xp_meaning.specs.declared.context.Context.{Context}
use Rattle.xp_meaning.specs.Paths.{Step, step_at}
use Rattle.xp_meaning.specs.Functions.{counted}
use Rattle.xp_meaning.specs.Evaluation.{Lets, meaning, meanings}

-- a step with one predicate
abbrev pub step_with : Table → Lets → Axis → NodeTest → TypedTree → Step
step_with T L axis node_test predicate = record { axis = axis; test = node_test; predicates = meanings T L (typed predicate no_typed) }

-- a step with the predicate `[k]` selects at a node the k-th of the nodes on its axis that pass its test, in the axis's
-- own order, backwards where the axis runs backwards (section 2.4)
abbrev pub NumberIsPosition : Type 0
NumberIsPosition =
    (T : Table) (L : Lets) (axis : Axis) (node_test : NodeTest) (k current n : ℕ) →
    (step_at T (step_with T L axis node_test (whole (pos (suc k)))) current n).answer
    ≡ Ok (option_to_list (slice_get (filter (passes T axis node_test) (axis_nodes T axis n)) k))

-- `count(a | b)`: with the nodes that both have it is the sum of their counts (section 3.3)
abbrev pub UnionCountsOnce : Type 0
UnionCountsOnce =
    (T : Table) (L : Lets) (a b : TypedTree) (c : Context) (xs ys : List ℕ) → IsNodeSet T xs → IsNodeSet T ys →
    (meaning T L a c).answer ≡ Ok (NodeSet xs) → (meaning T L b c).answer ≡ Ok (NodeSet ys) →
    (n : ℕ) × (((meaning T L (application Count (typed (union (typed a (typed b no_typed))) no_typed)) c).answer ≡ Ok (counted n))
    × (n + length (filter (λ m. mem m ys) xs) ≡ length xs + length ys))

-- `.`, which is written out as `self::node()`, is the context node (section 2.5)
abbrev pub DotIsContext : Table → Type 0
DotIsContext T =
    (L : Lets) (c : Context) → is_live T c.node ≡ true →
    (meaning T L (location at_context (typed_step axes.SelfNode tests.Any no_typed no_more_steps)) c).answer ≡ Ok (NodeSet (c.node ∷ []))

-- a value that is a node-set has live nodes in document order, each once
abbrev pub IsProper : Table → Value → Type 0
IsProper T (NodeSet nodes) = IsNodeSet T nodes
IsProper T (Truth truth) = Unit {0}
IsProper T (Number number) = Unit {0}
IsProper T (Chars characters) = Unit {0}

-- so are the values of the lets
abbrev pub LetsAreProper : Table → Lets → Type 0
LetsAreProper T L = (place : ℕ) (v : Value) → in_slot L place ≡ Some (Ok v) → IsProper T v

-- then each expression's value is so too (section 3.3), wherever the context node and the rule's node live
abbrev pub ValuesAreProper : Table → Type 0
ValuesAreProper T =
    (L : Lets) (t : TypedTree) (c : Context) (v : Value) → LetsAreProper T L → is_live T c.node ≡ true → is_live T c.current ≡ true →
    (meaning T L t c).answer ≡ Ok v → IsProper T v
