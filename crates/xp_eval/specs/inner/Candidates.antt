-- The candidates of a step as the program keeps it, and of steps without predicates.
use Rattle.std.specs.Prelude.{ℕ, List, Result, Ok, Err, filter}
use Rattle.std.specs.declared.alloc.AllocError.{AllocError}
use Rattle.doc_tree.specs.Table.{Table}
use Rattle.doc_axes.specs.Axes.{axis_nodes}
use Rattle.doc_axes.specs.NodeTests.{passes}
use Rattle.doc_axes.specs.Sets.{in_order}
use Rattle.xp_typed_tree.specs.declared.expr.TypedStep.{TypedStep, out-TypedStep}
use Rattle.xp_outcome.specs.Evaluation.{Evaluation, done, bind, gather}
use Rattle.xp_outcome.specs.Running.{Stop, no_memory}
use Rattle.xp_values.specs.declared.values.EvalFault.{EvalFault}
use Rattle.xp_meaning.specs.Paths.{candidates}

-- the nodes on a step's axis that pass its test
abbrev pub found : Table → TypedStep → ℕ → List ℕ
found T s n = filter (passes T (out-TypedStep s).axis (out-TypedStep s).test) (axis_nodes T (out-TypedStep s).axis n)

abbrev pub candidates_of : Table → TypedStep → ℕ → Evaluation EvalFault (List ℕ)
candidates_of T s n = candidates T (out-TypedStep s).axis (out-TypedStep s).test n

-- what a step selects from a set of nodes, if it has no predicates
abbrev pub plain_step_from : Table → TypedStep → List ℕ → Evaluation EvalFault (List ℕ)
plain_step_from T s ns = bind (gather (λ _ n. bind (candidates_of T s n) (λ ms. done ms)) (λ _ _ ms. ms) 1 ns) (λ ms. done (in_order T ms))

-- the end of a run that puts these nodes into a list
abbrev pub shown_found : List ℕ → Result Unit AllocError → Result (List ℕ) (Stop EvalFault)
shown_found ns (Ok _) = Ok ns
shown_found ns (Err _) = Err no_memory
