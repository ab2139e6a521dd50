-- The kids so far have their places.
use Rattle.std.proofs.Common.{take}
use Rattle.doc_locations.proofs.PlaceLemmas.{Counted}
use Rattle.doc_locations.proofs.places.count_kids.Given as goal

abbrev pub invariant-loop-kid : goal.invariant-loop-kid
invariant-loop-kid l = Counted l.fn.tree.nodes l.initial.places l.kids (take l.kid-index l.kids) l.places l.counts
