-- Units and the nodes that live: what they read of a tree, and what they give (ISO/IEC 19757-3, clause 6).
use Rattle.std.specs.Prelude.{◌≡◌, ℕ, true, Ok}
use Rattle.std.specs.List.{AllByRecursion as Each}
use Rattle.doc_tree.specs.Laws.{HasWaysUp, Ordered}
use Rattle.doc_tree.specs.Table.{Table, is_live}
use Rattle.xp_typed_tree.specs.TypedTree.{TypedTree}
use Rattle.xp_values.specs.declared.values.Value.{Value}
use Rattle.xp_meaning.specs.Conversions.{nodes_of}
use Rattle.xp_meaning.specs.Evaluation.{Lets}
use Rattle.xp_meaning_laws.specs.KnownReads.{AreLive, IsLiveRead, LetsAreLive}
use Rattle.sch_compiled.specs.declared.findings.Outcome.{Outcome}
use Rattle.sch_compiled.specs.declared.plan.Plan.{Plan}
use Rattle.sch_compiled.specs.Findings.{FindsAtLiveNodes}
use Rattle.sch_units.specs.Units.{unit_let, unit_pair}
use Rattle.sch_units.specs.Validity.{pair_outcome}

-- where the nodes of the lets' values live, a unit reads cells of live nodes, and names along axes from live nodes
pub record UnitsReadLiveCells : Type 0 where
  pub lets : (T : Table) (L : Lets) (expr : TypedTree) → Ordered T → HasWaysUp T → LetsAreLive T L → Each (IsLiveRead T) (unit_let T L expr).reads
  pub pairs : (plan : Plan) (T : Table) (L : Lets) (p n : ℕ) → Ordered T → HasWaysUp T → LetsAreLive T L → is_live T n ≡ true →
      Each (IsLiveRead T) (unit_pair plan T L p n).reads

-- and the nodes of the value that a let in force gives live
abbrev pub LetsGiveLiveNodes : Type 0
LetsGiveLiveNodes =
    (T : Table) (L : Lets) (expr : TypedTree) (v : Value) → Ordered T → HasWaysUp T → LetsAreLive T L → (unit_let T L expr).answer ≡ Ok v →
    AreLive T (nodes_of v)

-- and what a live node under a pattern finds is at live nodes
pub record PairsFindAtLiveNodes : Type 0 where
  -- where the nodes of the lets' values live
  pub given : (plan : Plan) (T : Table) (L : Lets) (p n : ℕ) (outcome : Outcome) → Ordered T → HasWaysUp T → LetsAreLive T L → is_live T n ≡ true →
      (unit_pair plan T L p n).answer ≡ Ok outcome → FindsAtLiveNodes T outcome
  -- under the lets in force of the tree
  pub own : (plan : Plan) (T : Table) (p n : ℕ) → Ordered T → HasWaysUp T → is_live T n ≡ true → FindsAtLiveNodes T (pair_outcome plan T p n)
