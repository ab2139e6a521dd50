-- The attributes so far.
use Rattle.std.proofs.Common.{◌≡◌, take}
use Rattle.doc_tree.specs.Table.{attrs_of}
use Rattle.sch_include.proofs.CopyLemmas.{Attributing}
use Rattle.sch_include.proofs.copy.copy_attributes.Given as goal

abbrev pub invariant-loop-attr : goal.invariant-loop-attr
invariant-loop-attr l = record {
  copied : Attributing l.fn.tree.nodes l.tree.nodes l.to l.source.nodes (take l.attr-index (attrs_of l.fn.source.nodes l.fn.n));
  cap : l.tree.pair_cap ≡ l.fn.tree.pair_cap;
}
