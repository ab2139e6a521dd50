-- Steps, predicates and location paths (XPath 1.0, sections 2, 2.1 and 2.4).
use Rattle.std.specs.Prelude.{ℕ, pos, ◌+◌, Bool, List, [], ◌∷◌, length, filter, if◌then◌else◌}
use Rattle.doc_tree.specs.declared.axes.Axis.{Axis}
use Rattle.doc_tree.specs.declared.axes.NodeTest.{NodeTest}
use Rattle.doc_tree.specs.Table.{Table}
use Rattle.doc_axes.specs.Axes.{axis_nodes}
use Rattle.doc_axes.specs.NodeTests.{passes}
use Rattle.doc_axes.specs.Sets.{in_order}
use Rattle.xp_outcome.specs.Evaluation.{Evaluation, done, bind, visits, all_reading, gather}
use Rattle.xp_values.specs.declared.values.Value.{Value}
use Rattle.xp_values.specs.declared.values.Value.TheVariants.{NodeSet, Truth, Number, Chars}
use Rattle.xp_values.specs.declared.values.EvalFault.{EvalFault}
use Rattle.xp_tree.specs.declared.operators.Comparison.TheVariants.{Eq}
use Rattle.xp_values.specs.declared.numbers.Num.TheVariants.{Whole}
use Rattle.xp_values.specs.Comparisons.{number_test}
use Rattle.xp_values.specs.Conversions.{to_truth}
use Rattle.xp_meaning.specs.Reads.{axis_reads, names_tested}
use Rattle.xp_meaning.specs.declared.context.Context.{Context}

-- what an expression gives in a context
abbrev pub Meaning : Type 0
Meaning = Context → Evaluation EvalFault Value

-- a step: its axis, its node test, and what its predicates give
pub record Step : Type 0 where
  pub axis : Axis
  pub test : NodeTest
  pub predicates : List Meaning

-- whether a predicate holds at a position: a number where it is the position, another value by its truth (section 2.4)
abbrev pub holds_at : ℕ → Value → Bool
holds_at position (NodeSet nodes) = to_truth (NodeSet nodes)
holds_at position (Truth truth) = truth
holds_at position (Number number) = number_test Eq number (Whole (pos position))
holds_at position (Chars text) = to_truth (Chars text)

-- the node at a position, where the predicate's value lets it stay
abbrev pub chosen : ℕ → ℕ → Value → List ℕ
chosen position n v = if holds_at position v then n ∷ [] else []

-- a node as the context node, at a position among so many; the rule's node stays
abbrev pub placed : ℕ → ℕ → ℕ → ℕ → Context
placed current size position n = record { node = n; position = position; size = size; current = current }

-- the nodes for which a predicate holds: it is evaluated at each, whose position is its place in the list, among as
-- many as the list has (section 2.4)
abbrev pub kept : Meaning → ℕ → List ℕ → Evaluation EvalFault (List ℕ)
kept predicate current ns = gather (λ position n. predicate (placed current (length ns) position n)) chosen 1 ns

-- each predicate filters what the one before it has left
abbrev pub filtered : List Meaning → ℕ → List ℕ → Evaluation EvalFault (List ℕ)
filtered [] current ns = done ns
filtered (p ∷ ps) current ns = bind (kept p current ns) (λ ms. filtered ps current ms)

-- the candidates of a step at a node: the nodes on its axis, in the axis's own order, that pass its test; the names that it
-- looks at are read, the node is visited, and so is each node on the axis (sections 2.2 and 2.3)
unfoldable pub candidates : Table → Axis → NodeTest → ℕ → Evaluation EvalFault (List ℕ)
candidates T axis node_test n =
    all_reading (axis_reads T axis n) (all_reading (names_tested axis node_test n)
    (visits (1 + length (axis_nodes T axis n)) (done (filter (passes T axis node_test) (axis_nodes T axis n)))))

-- a step at a node: its candidates, filtered by its predicates (section 2.1)
abbrev pub step_at : Table → Step → ℕ → ℕ → Evaluation EvalFault (List ℕ)
step_at T s current n = bind (candidates T s.axis s.test n) (λ ms. filtered s.predicates current ms)

-- a step from a set of nodes: what it selects at each of them, as one set in document order
abbrev pub step_from : Table → Step → ℕ → List ℕ → Evaluation EvalFault (List ℕ)
step_from T s current ns = bind (gather (λ _ n. step_at T s current n) (λ _ _ ms. ms) 1 ns) (λ ms. done (in_order T ms))

-- the steps of a path, one after another (section 2)
abbrev pub path : Table → List Step → ℕ → List ℕ → Evaluation EvalFault (List ℕ)
path T [] current ns = done ns
path T (s ∷ ss) current ns = bind (step_from T s current ns) (λ ms. path T ss current ms)
