use Rattle.std.proofs.Common.{◌≡◌, ◌≤◌, ◌-◌, drop}
use Rattle.doc_tree.specs.Changes.{meeting}
use Rattle.undo_entries.proofs.places.meeting.Given as goal

-- no kid so far is the node
abbrev pub invariant-loop-i : goal.invariant-loop-i
invariant-loop-i l = record {
  within : 2 ≤ l.i;
  same : meeting l.tree.nodes l.n (drop (l.i - 2) l.kids) ≡ meeting l.tree.nodes l.n l.kids;
}
