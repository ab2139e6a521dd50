use Rattle.std.proofs.Common.{◌≡◌, ◌≤◌, take}
use Rattle.doc_edits.specs.inner.Removing.{Counted, emptied}
use Rattle.doc_edits.proofs.removing.take_all.Given as goal

abbrev pub invariant-loop-n : goal.invariant-loop-n
invariant-loop-n l =
    Counted l.bare × (l.bare.nodes ≡ emptied (take l.n-index l.ns) l.initial.bare.nodes) × (l.bare.live ≤ l.initial.bare.live)
    × (l.bare.names ≡ l.initial.bare.names) × (l.bare.pair_cap ≡ l.initial.bare.pair_cap)
