use Rattle.std.proofs.Common.{◌≡◌, ℕ, ◌<◌, false}
use Rattle.doc_tree.specs.Refusals.{is_too_deep_at}
use Rattle.doc_tree.proofs.tree.Tree.is_too_deep.Given as goal

-- no number so far is one of an element that would stand too deep
abbrev pub invariant-loop-number : goal.invariant-loop-number
invariant-loop-number l = (m : ℕ) → m < l.number → is_too_deep_at l.self.nodes l.fn.parent l.piece.nodes m ≡ false
