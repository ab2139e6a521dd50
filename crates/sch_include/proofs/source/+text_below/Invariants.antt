-- A way down ends, and the bytes of the kids so far were counted.
use Rattle.std.proofs.Common.{◌≡◌, ◌-◌, ◌+◌, length, take, sum_by}
use Rattle.std.specs.List.{flat_map}
use Rattle.doc_tree.specs.limits.TheConstants.{MAX_DEPTH}
use Rattle.doc_tree.specs.Table.{kids_of, value_of}
use Rattle.doc_tree.specs.Walks.{ancestors, below}
use Rattle.sch_include.specs.inner.Growing.{own_text}
use Rattle.sch_include.proofs.source.+text_below.Given as goal

-- how much deeper a way down can go
abbrev pub decreases-text_below : goal.decreases-text_below
decreases-text_below l = (MAX_DEPTH + 2) - length (ancestors l.tree.now.nodes l.n)

abbrev pub invariant-loop-kid : goal.invariant-loop-kid
invariant-loop-kid l = l.bytes ≡ own_text l.fn.tree.nodes l.fn.n + sum_by (λ m. length (value_of l.fn.tree.nodes m)) (flat_map (below l.fn.tree.nodes) (take l.kid-index (kids_of l.fn.tree.nodes l.fn.n)))
