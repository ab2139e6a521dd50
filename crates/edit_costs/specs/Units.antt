-- The units of a validation over a tree (ISO/IEC 19757-3, clause 6): which there are, what each reads and what its evaluation
-- costs, under the lets in force of the tree.
use Rattle.std.specs.Prelude.{ℕ, Bool, not, is_none, List, [], ◌++◌, length, map, filter, take, flat_map, Option, None, Some, slice_get}
use Rattle.std.specs.List.{range_with_len}
use Rattle.doc_tree.specs.Table.{Table, is_live}
use Rattle.xp_outcome.specs.Evaluation.{Read}
use Rattle.xp_outcome.specs.Slots.{in_slot}
use Rattle.xp_meaning.specs.Evaluation.{Lets}
use Rattle.sch_compiled.specs.declared.parts.LetInForce.{LetInForce}
use Rattle.sch_compiled.specs.declared.plan.Plan.{Plan}
use Rattle.sch_locality_laws.specs.Units.{lets_of, unit_let, unit_pair}
use Rattle.sch_locality_laws.specs.Validity.{let_fault, pair_fault, pair_outcome, pattern_numbers}

-- a let in force, by its slot, or a node under an active pattern, by the numbers of the pattern and of the node
pub data ValidationUnit : Type 0 where
  in_force : ℕ → ValidationUnit
  under : ℕ → ℕ → ValidationUnit

-- the live nodes, by number
abbrev pub live_numbers : Table → List ℕ
live_numbers T = filter (is_live T) (range_with_len 0 (length T))

-- the units of the lets in force
abbrev pub let_units : Plan → List ValidationUnit
let_units plan = map in_force (range_with_len 0 (length plan.lets))

-- the units of a pattern: its live nodes
abbrev pub node_units : Table → ℕ → List ValidationUnit
node_units T p = map (under p) (live_numbers T)

-- all units over a tree
abbrev pub units_of : Plan → Table → List ValidationUnit
units_of plan T = let_units plan ++ flat_map (node_units T) (pattern_numbers plan)

-- what a let in force reads, evaluated under some lets
abbrev pub let_reads : Table → Lets → Option LetInForce → List Read
let_reads T L None = []
let_reads T L (Some t) = (unit_let T L t.expr).reads

-- and its visits
abbrev pub let_work : Table → Lets → Option LetInForce → ℕ
let_work T L None = 0
let_work T L (Some t) = (unit_let T L t.expr).work

-- what a unit reads: a let is evaluated under those before it, a node under all
abbrev pub reads_of : Plan → Table → ValidationUnit → List Read
reads_of plan T (in_force slot) = let_reads T (take slot (lets_of plan T)) (slice_get plan.lets slot)
reads_of plan T (under p n) = (unit_pair plan T (lets_of plan T) p n).reads

-- the visits of a unit's evaluation
abbrev pub work_of : Plan → Table → ValidationUnit → ℕ
work_of plan T (in_force slot) = let_work T (take slot (lets_of plan T)) (slice_get plan.lets slot)
work_of plan T (under p n) = (unit_pair plan T (lets_of plan T) p n).work

-- whether the evaluation of a unit meets a fault
abbrev pub has_fault : Plan → Table → ValidationUnit → Bool
has_fault plan T (in_force slot) = not (is_none (let_fault slot (in_slot (lets_of plan T) slot)))
has_fault plan T (under p n) = not (is_none (pair_fault p n (pair_outcome plan T p n)))
