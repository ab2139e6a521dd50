-- A way down ends, and the kids so far were counted.
use Rattle.std.proofs.Common.{◌≡◌, ◌-◌, ◌+◌, suc, length, take}
use Rattle.std.specs.List.{flat_map}
use Rattle.doc_tree.specs.limits.TheConstants.{MAX_DEPTH}
use Rattle.doc_tree.specs.Table.{attrs_of, kids_of}
use Rattle.doc_tree.specs.Walks.{ancestors, below}
use Rattle.undo_entries.proofs.places.+count_below.Given as goal

-- how much deeper a way down can go
abbrev pub decreases-count_below : goal.decreases-count_below
decreases-count_below l = (MAX_DEPTH + 2) - length (ancestors l.tree.now.nodes l.n)

abbrev pub invariant-loop-kid : goal.invariant-loop-kid
invariant-loop-kid l = l.count ≡ suc (length (attrs_of l.fn.tree.nodes l.fn.n)) + length (flat_map (below l.fn.tree.nodes) (take l.kid-index (kids_of l.fn.tree.nodes l.fn.n)))
