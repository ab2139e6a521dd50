-- The nodes so far are a node-set, of which the last is at hand.
use Rattle.std.proofs.Common.{◌≡◌, List, ℕ, [], ◌∷◌, ◌++◌, take}
use Rattle.doc_axes.specs.Sets.{IsNodeSet}
use Rattle.doc_axes.proofs.sets.follow_in_order.Given as goal

abbrev pub invariant-loop-n : goal.invariant-loop-n
invariant-loop-n l = record {
  ends : (front : List ℕ) × (l.fn.first ∷ take l.n-index l.rest ≡ front ++ l.last ∷ []);
  set : IsNodeSet l.tree.nodes (l.fn.first ∷ take l.n-index l.rest);
}
