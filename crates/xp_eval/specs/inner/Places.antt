-- Predicates that ask for a place among nodes, counted from 1.
use Rattle.std.specs.Prelude.{◌≡◌, ℕ, ◌+◌, List, [], ◌∷◌, ◌++◌, length}
use Rattle.std.specs.Option.{option_to_list}
use Rattle.doc_tree.specs.Table.{Table}
use Rattle.doc_axes.specs.Axes.{axis_nodes}
use Rattle.doc_axes.specs.declared.placed.Placed.{Placed}
use Rattle.xp_typed_tree.specs.declared.expr.TypedExpr.{TypedExpr}
use Rattle.xp_typed_tree.specs.declared.expr.TypedStep.{TypedStep, out-TypedStep}
use Rattle.xp_typed_tree.specs.TypedView.{typed_tree_of}
use Rattle.xp_outcome.specs.Evaluation.{done, visits}
use Rattle.xp_meaning.specs.Evaluation.{Lets, meaning}
use Rattle.xp_meaning.specs.Functions.{counted}
use Rattle.xp_meaning.specs.Paths.{chosen, kept}
use Rattle.xp_eval.specs.declared.positions.Asked.{Asked}
use Rattle.xp_eval.specs.declared.positions.Asked.TheVariants.{At, Last}
use Rattle.xp_eval.specs.inner.Candidates.{found}

-- the place among so many nodes
abbrev pub place_for : Asked → ℕ → ℕ
place_for (At place) size = place
place_for Last size = size

-- the nodes at a place, of which there is one at most; the first of the nodes has the place i
abbrev pub at_place : ℕ → ℕ → List ℕ → List ℕ
at_place place i [] = []
at_place place i (n ∷ ns) = chosen i n (counted place) ++ at_place place (i + 1) ns

-- what is known of a step's candidates at a node whose first predicate asks for a place: how many nodes its axis has there, and what the predicate
-- keeps, at a visit for each candidate
pub record IsAskedAt (T : Table) (s : TypedStep) (n : ℕ) (placed : Placed) : Type 0 where
  pub first : TypedExpr
  pub rest : List TypedExpr
  pub predicates : (out-TypedStep s).predicates.items ≡ first ∷ rest
  pub on_axis : placed.on_axis ≡ length (axis_nodes T (out-TypedStep s).axis n)
  pub keeps : (L : Lets) (current : ℕ) → kept (meaning T L (typed_tree_of first)) current (found T s n) ≡ visits placed.passing (done (option_to_list placed.node))
