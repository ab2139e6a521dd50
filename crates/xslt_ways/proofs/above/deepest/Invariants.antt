use Rattle.std.proofs.Common.{◌≡◌, ℕ, true, take, IfSome}
use Rattle.std.specs.List.{list_any}
use Rattle.doc_tree.specs.Lists.{mem}
use Rattle.doc_tree.specs.Walks.{above}
use Rattle.xslt_ways.specs.Ways.{looks_there}
use Rattle.xslt_ways.proofs.above.deepest.Given as goal

abbrev pub invariant-loop-p : goal.invariant-loop-p
invariant-loop-p l = record {
  one : IfSome l.end (λ a. mem a l.nodes ≡ true);
  below : (m : ℕ) → looks_there l.tree.nodes true m l.end ≡ list_any (λ p. mem m (above l.tree.nodes p)) (take l.p-index l.nodes);
}
