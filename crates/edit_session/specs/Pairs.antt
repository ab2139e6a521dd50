-- Pairs of an active pattern and a live node: how many there may be, and how many nodes may live for that.
use Rattle.std.specs.Prelude.{◌≡◌, ℕ, ◌*◌, ◌/◌, nat_eq, nat_lt, min, Bool, ◌||◌, length, if◌then◌else◌}
use Rattle.sch_base.specs.declared.limits.TheConstants.{MAX_PAIRS}
use Rattle.doc_tree.specs.limits.TheConstants.{MAX_LIVE_NODES}
use Rattle.doc_tree.specs.Table.{Table}
use Rattle.doc_tree.specs.Walks.{order}
use Rattle.sch_compiled.specs.declared.plan.Plan.{Plan}

-- whether there are too many pairs of an active pattern and a node
abbrev pub has_too_many_pairs : Plan → Table → Bool
has_too_many_pairs plan T = nat_lt MAX_PAIRS (length plan.patterns * length (order T))

-- how many nodes may live so that the pairs of so many patterns are not too many; the limit of a tree where that is less
abbrev pub cap_under : ℕ → ℕ
cap_under patterns = if nat_eq patterns 0 then MAX_LIVE_NODES else min (MAX_PAIRS / patterns) MAX_LIVE_NODES

-- the pair cap of the documents under a plan
abbrev pub pair_cap_for : Plan → ℕ
pair_cap_for plan = cap_under (length plan.patterns)

-- so many nodes are more than the pair cap exactly where they are more than may live in a tree, or make too many pairs
abbrev pub CapIsForPairs : Type 0
CapIsForPairs = (plan : Plan) (count : ℕ) →
    nat_lt (pair_cap_for plan) count ≡ (nat_lt MAX_LIVE_NODES count || nat_lt MAX_PAIRS (length plan.patterns * count))
