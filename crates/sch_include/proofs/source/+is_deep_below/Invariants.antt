-- A way down ends, and no kid so far has an element that stands too deep.
use Rattle.std.proofs.Common.{◌≡◌, ◌-◌, ◌+◌, false, length, take}
use Rattle.std.specs.List.{flat_map, list_any}
use Rattle.doc_tree.specs.limits.TheConstants.{MAX_DEPTH}
use Rattle.doc_tree.specs.Table.{kids_of}
use Rattle.doc_tree.specs.Walks.{ancestors, below}
use Rattle.sch_include.specs.inner.Deep.{is_deep_at}
use Rattle.sch_include.proofs.source.+is_deep_below.Given as goal

-- how much deeper a way down can go
abbrev pub decreases-is_deep_below : goal.decreases-is_deep_below
decreases-is_deep_below l = (MAX_DEPTH + 2) - length (ancestors l.tree.now.nodes l.n)

abbrev pub invariant-loop-kid : goal.invariant-loop-kid
invariant-loop-kid l = list_any (is_deep_at l.fn.tree.nodes l.fn.above) (flat_map (below l.fn.tree.nodes) (take l.kid-index (kids_of l.fn.tree.nodes l.fn.n))) ≡ false
