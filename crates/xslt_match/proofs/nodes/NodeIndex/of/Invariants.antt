use Rattle.std.proofs.Common.{◌≡◌, ℕ, ◌||◌, drop}
use Rattle.doc_tree.specs.Lists.{mem}
use Rattle.xslt_match.proofs.nodes.NodeIndex.of.Given as goal

abbrev pub invariant-loop-n : goal.invariant-loop-n
invariant-loop-n l = (q : ℕ) → (mem q l.numbers.keys || mem q (drop l.n-index l.nodes)) ≡ mem q l.nodes
