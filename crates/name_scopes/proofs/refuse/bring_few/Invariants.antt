use Rattle.std.proofs.Common.{◌≡◌, ◌+◌, drop, sum_by}
use Rattle.name_scopes.specs.Fragments.{event_nodes}
use Rattle.name_scopes.proofs.refuse.bring_few.Given as goal

-- what is left is the limit without the nodes so far
abbrev pub invariant-loop-event : goal.invariant-loop-event
invariant-loop-event l = l.left + sum_by event_nodes l.events ≡ l.limit + sum_by event_nodes (drop l.event-index l.events)
