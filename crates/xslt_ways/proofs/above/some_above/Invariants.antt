use Rattle.std.proofs.Common.{◌≡◌, false, take, IfSome}
use Rattle.std.specs.List.{list_any}
use Rattle.doc_tree.specs.Lists.{mem}
use Rattle.doc_tree.specs.Walks.{above}
use Rattle.xslt_ways.proofs.above.some_above.Given as goal

abbrev pub invariant-loop-m : goal.invariant-loop-m
invariant-loop-m l = record {
  none : list_any (λ m. mem m (above l.tree.nodes l.p)) (take l.m-index l.nodes) ≡ false;
  not_above : IfSome l.passed (λ a. mem a (above l.tree.nodes l.p) ≡ false);
}
