-- The tree is the same document with its pair cap, and nothing is kept.
use Rattle.std.proofs.Common.{◌∙◌, ap, sym}
use Rattle.std.proofs.lemmas.Bool.{true≢false}
use Rattle.doc_tree.specs.Kinds.{is_document}
use Rattle.doc_tree.specs.Table.{Contents}
use Rattle.xp_watch.proofs.watch.Watch.open.Goals as goal

pub invariant_of-result : goal.invariant_of-result
invariant_of-result c = record {
  document = ap (λ (tree : Contents). is_document tree.nodes) c.set_pair_cap.ensures ∙ c.requires;
  cap = ap (λ (tree : Contents). tree.pair_cap) c.set_pair_cap.ensures;
  keeps = record {
    values = c.in-Ok.ensures.values ∙ c.len.ensures;
    reads = c.in-Ok.ensures.reads ∙ c.len.ensures;
    right = λ k expr there fresh. absurd (true≢false (sym (c.in-Ok.ensures.stale k) ∙ fresh));
  };
}
