-- A way down ends, and the kids so far were told.
use Rattle.std.proofs.Common.{◌≡◌, ◌-◌, ◌+◌, ◌++◌, length, take}
use Rattle.std.specs.List.{flat_map}
use Rattle.doc_tree.specs.limits.TheConstants.{MAX_DEPTH}
use Rattle.doc_tree.specs.Walks.{ancestors}
use Rattle.subtree_events.specs.Events.{events_below}
use Rattle.undo_entries.proofs.events.+push_below.Given as goal

-- how much deeper a way down can go
abbrev pub decreases-push_below : goal.decreases-push_below
decreases-push_below l = (MAX_DEPTH + 2) - length (ancestors l.tree.now.nodes l.n)

abbrev pub invariant-loop-kid : goal.invariant-loop-kid
invariant-loop-kid l = l.events ≡ l.initial.events ++ flat_map (events_below l.fn.tree.nodes) (take l.kid-index l.kid-items)
