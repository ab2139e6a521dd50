-- The declarations so far.
use Rattle.std.proofs.Common.{◌≡◌, take}
use Rattle.doc_tree.specs.Table.{decls_of}
use Rattle.sch_include.proofs.CopyLemmas.{Declaring}
use Rattle.sch_include.proofs.copy.copy_decls.Given as goal

abbrev pub invariant-loop-i : goal.invariant-loop-i
invariant-loop-i l = record {
  copied : Declaring l.fn.tree.nodes l.tree.nodes l.to (take l.i (decls_of l.source.nodes l.n));
  cap : l.tree.pair_cap ≡ l.fn.tree.pair_cap;
}
