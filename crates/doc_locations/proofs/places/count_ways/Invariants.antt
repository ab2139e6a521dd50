-- The places that are counted so far are right.
use Rattle.doc_locations.specs.inner.Places.{HoldsSome}
use Rattle.doc_locations.proofs.places.count_ways.Given as goal

abbrev pub invariant-loop-n : goal.invariant-loop-n
invariant-loop-n l = HoldsSome l.fn.tree.nodes l.places
