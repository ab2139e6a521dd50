use Rattle.std.proofs.Common.{◌≡◌, ◌≤◌, ◌+◌, drop}
use Rattle.doc_tree.specs.limits.TheConstants.{MAX_DEPTH}
use Rattle.name_scopes.specs.Fragments.{is_too_deep}
use Rattle.name_scopes.proofs.refuse.are_too_deep.Given as goal

-- no element so far is too deep
abbrev pub invariant-loop-event : goal.invariant-loop-event
invariant-loop-event l = record {
  small : l.depth ≤ MAX_DEPTH + 2;
  same : is_too_deep l.start l.events ≡ is_too_deep l.depth (drop l.event-index l.events);
}
