-- The kids so far were counted.
use Rattle.std.proofs.Common.{◌≡◌, ◌+◌, ◌≤◌, drop}
use Rattle.doc_locations.specs.Locations.{has_kind, place_among}
use Rattle.doc_locations.proofs.places.place_among.Given as goal

abbrev pub invariant-loop-kid : goal.invariant-loop-kid
invariant-loop-kid l = (l.place + place_among (has_kind l.fn.tree.nodes l.fn.kind) l.fn.n (drop l.kid-index l.kids) ≡ place_among (has_kind l.fn.tree.nodes l.fn.kind) l.fn.n l.kids) × (l.place ≤ l.kid-index)
