use Rattle.std.proofs.Common.{◌≡◌, ◌++◌, ◌-◌, ◌+◌, take, length}
use Rattle.doc_tree.specs.limits.TheConstants.{MAX_DEPTH}
use Rattle.doc_tree.specs.Walks.{ancestors}
use Rattle.doc_axes.specs.Plain.{plain_below}
use Rattle.doc_axes.proofs.walks.+push_plain.Given as goal

-- how much deeper a way down can go
abbrev pub decreases-push_plain : goal.decreases-push_plain
decreases-push_plain l = (MAX_DEPTH + 2) - length (ancestors l.tree.now.nodes l.n)

abbrev pub invariant-loop-kid : goal.invariant-loop-kid
invariant-loop-kid l = l.list ≡ l.initial.list ++ plain_below l.tree.nodes (take l.kid-index l.kid-items)
