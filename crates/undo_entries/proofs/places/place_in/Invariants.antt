-- The number stands at none of the places so far.
use Rattle.std.proofs.Common.{◌≡◌, ◌+◌, drop}
use Rattle.doc_tree.specs.Lists.{place_in}
use Rattle.undo_entries.proofs.places.place_in.Given as goal

abbrev pub invariant-loop-i : goal.invariant-loop-i
invariant-loop-i l = l.i + place_in l.n (drop l.i l.ns) ≡ place_in l.n l.ns
