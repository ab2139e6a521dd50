-- The next node is one of them too.
use Rattle.std.proofs.Common.{◌≡◌, ⊎_elim, ◌+◌, ◌<◌, ◌∷◌, [], ◌++◌, ◌∙◌, ap, arith, length, subst, sym, take, true}
use Rattle.std.proofs.lemmas.Bool.{OnTrue_at}
use Rattle.std.proofs.lemmas.List.{take_more}
use Rattle.doc_table.specs.Kinds.{IsElementNamed}
use Rattle.doc_table.specs.Lists.{mem}
use Rattle.doc_table.specs.Table.{numbered}
use Rattle.doc_table.specs.inner.Parts.{table_of}
use Rattle.doc_table.proofs.ListLemmas.{mem-append, mem-one}
use Rattle.doc_table.proofs.bare.Bare.elements_named.Goals as goal

pub loop-count-preserved : goal.loop-count-preserved
loop-count-preserved c =
    let nodes = c.args.nodes.now in
    let k = c.loop-count.count in
    let next = c.index-nodes-count.result in
    let Is = IsElementNamed (table_of c.args.self.now) (numbered c.args.self.now.names c.args.name) in
    let below : k < length nodes = c.loop-count-test.true in
    let one_more : take (k + 1) nodes ≡ take k nodes ++ next ∷ [] = take_more nodes k next below ∙ ap (λ n. take k nodes ++ n ∷ []) (sym c.index-nodes-count.is) in
    let here : Is next = OnTrue_at c.if-is_element_named.true c.is_element_named.ensures in
    record {
      within = omega (arith, below);
      named = λ n h.
          ⊎_elim (λ (old : mem n (take k nodes) ≡ true). c.loop-count.invariant.named n old)
          (λ (new : mem n (next ∷ []) ≡ true). subst Is (sym (mem-one n next new)) here)
          (mem-append n (take k nodes) (next ∷ []) (subst (λ ns. mem n ns ≡ true) one_more h));
    }
