-- What a meaning depends on of the node that `current()` gives: nothing, where `current` isn't called (XSLT 1.0, sections 5.2
-- and 12.4).
use Rattle.std.specs.Prelude.{◌≡◌, ℕ, true, false}
use Rattle.doc_tree.specs.declared.axes.Axis.{Axis}
use Rattle.doc_tree.specs.declared.axes.NodeTest.{NodeTest}
use Rattle.doc_tree.specs.Table.{Table}
use Rattle.xp_typed_tree.specs.TypedTree.{TypedTree, TypedTrees}
use Rattle.xp_typed_tree.specs.WellTyped.{WellTyped, AllTyped}
use Rattle.xp_meaning.specs.declared.context.Context.{Context}
use Rattle.xp_meaning.specs.Paths.{Step, step_at}
use Rattle.xp_meaning.specs.Evaluation.{Lets, meaning, meanings}

-- a context with another node for `current()`
abbrev pub with_current : ℕ → Context → Context
with_current n c = record { node = c.node; position = c.position; size = c.size; current = n }

-- an expression that a pattern may hold gives the same, reads the same and costs the same with each node for `current()`
abbrev pub PatternsNeedNoCurrent : Type 0
PatternsNeedNoCurrent =
    (T : Table) (L : Lets) (t : TypedTree) (c : Context) (n : ℕ) → WellTyped true t → meaning T L t (with_current n c) ≡ meaning T L t c

-- a step with the predicates of a list
abbrev pub step_with_all : Table → Lets → Axis → NodeTest → TypedTrees → Step
step_with_all T L axis node_test predicates = record { axis = axis; test = node_test; predicates = meanings T L predicates }

-- and so does a step whose predicates a pattern may hold
abbrev pub StepsNeedNoCurrent : Type 0
StepsNeedNoCurrent =
    (T : Table) (L : Lets) (axis : Axis) (node_test : NodeTest) (predicates : TypedTrees) (current other n : ℕ) → AllTyped true false predicates →
    step_at T (step_with_all T L axis node_test predicates) current n ≡ step_at T (step_with_all T L axis node_test predicates) other n
