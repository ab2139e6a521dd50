use Rattle.std.proofs.Common.{◌≡◌, take, count_by}
use Rattle.doc_table.specs.Table.{kind_of}
use Rattle.doc_table.specs.Kinds.{is_element, is_text}
use Rattle.doc_tree.proofs.tree.Tree.is_document.Given as goal

abbrev pub invariant-loop-kid : goal.invariant-loop-kid
invariant-loop-kid l = record {
  elements_so_far : l.elements ≡ count_by (λ k. is_element (kind_of l.self.nodes k)) (take l.kid-index l.kid-items);
  texts_so_far : l.texts ≡ count_by (λ k. is_text (kind_of l.self.nodes k)) (take l.kid-index l.kid-items);
}
