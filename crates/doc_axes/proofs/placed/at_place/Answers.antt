-- Nodes are gone over up to the place; those behind are counted, and where the place isn't reached there is none.
use Rattle.std.proofs.Common.{◌≡◌, ◌+◌, ◌-◌, ◌<◌, ◌≤◌, ◌++◌, ◌∷◌, [], true, false, filter, length, max, take, drop, get_or, ap, sym, ◌∙◌, subst, arith, leb-true, leb-false, true≢false}
use Rattle.std.proofs.lemmas.List.{drop_all, length-drop, take-append-drop}
use Rattle.doc_tree.specs.Lists.{mem}
use Rattle.doc_tree.proofs.ListLemmas.{mem-get}
use Rattle.doc_axes.specs.NodeTests.{passes}
use Rattle.doc_axes.specs.Places.{IsPlaced, node_at}
use Rattle.doc_axes.specs.inner.Lending.{lent_nodes}
use Rattle.doc_axes.specs.inner.Seeing.{Tells}
use Rattle.doc_axes.proofs.Backwards.{passes_not, passes_too}
use Rattle.doc_axes.proofs.Lending.{count_both, few_pass, node_stays, one_item}
use Rattle.doc_axes.proofs.SubLists.{filter-append}
use Rattle.doc_axes.proofs.placed.at_place.Goals.{else-is_done, else-loop-lent-test, else-passes_by, then-is_done, then-loop-lent-test+else-next-on_axis, then-passes_by}
use Rattle.doc_axes.proofs.placed.at_place.Goals as goal

pub passes_by-requires-clause-live : goal.passes_by-requires-clause-live
passes_by-requires-clause-live c =
    let nodes = lent_nodes c.args.lent in
    let n = c.at-n.result in
    c.requires.live n (subst (λ m. mem m nodes ≡ true) c.at-n.ensures (mem-get nodes c.loop-lent.next n (omega (arith, c.if-next-on_axis.true, c.len-on_axis.ensures))))

pub loop-lent-preserved : goal.loop-lent-preserved
loop-lent-preserved c =
    let nodes = lent_nodes c.args.lent in
    let n = c.at-n.result in
    let k = c.loop-lent.next in
    let p = passes c.args.tree.now.nodes c.args.axis c.args.test.now in
    let below : k < length nodes = omega (arith, c.if-next-on_axis.true, c.len-on_axis.ensures) in
    elim c.if-passes_by.branch [
      | then-passes_by w ↦
          let one : p n ≡ true = sym c.passes_by.ensures.passes ∙ w.if-passes_by.true in
          let is : filter p (take (k + 1) nodes) ≡ filter p (take k nodes) ++ n ∷ [] = passes_too p nodes k n below c.at-n.ensures one in
          let here : k ≡ k + 1 - 1 = omega arith in
          record {
            told = subst (λ seen. Tells c.args.place (filter p (take (k + 1) nodes)) seen) (sym w.seen-is)
                (subst (λ found. Tells c.args.place found w.see.new.self) (sym is) (w.see.ensures.told c.args.place (filter p (take k nodes)) c.loop-lent.invariant.told));
            few = subst (λ seen. seen.count ≤ k + 1) (sym w.seen-is) (omega (arith, w.see.ensures.counted, c.loop-lent.invariant.few));
            within = omega (arith, below);
            judged = c.passes_by.ensures.judged;
            last = λ _. (omega arith, λ m there. subst (λ x. p x ≡ true) (one_item nodes k n m below c.at-n.ensures (ap (λ i. get_or nodes i m) here ∙ there)) one);
          }
      | else-passes_by w ↦
          let is : filter p (take (k + 1) nodes) ≡ filter p (take k nodes) = passes_not p nodes k n below c.at-n.ensures (sym c.passes_by.ensures.passes ∙ w.if-passes_by.false) in
          let sought : max c.loop-lent.seen.place 1 ≡ max c.args.place 1 = ap (λ i. max i 1) c.loop-lent.invariant.told.sought in
          let open_yet : c.loop-lent.seen.count < max c.loop-lent.seen.place 1 = leb-false _ _ (sym c.is_done.ensures ∙ c.loop-lent-test.true) in
          record {
            told = subst (λ seen. Tells c.args.place (filter p (take (k + 1) nodes)) seen) (sym w.seen-is)
                (subst (λ found. Tells c.args.place found c.loop-lent.seen) (sym is) c.loop-lent.invariant.told);
            few = subst (λ seen. seen.count ≤ k + 1) (sym w.seen-is) (omega (arith, c.loop-lent.invariant.few));
            within = omega (arith, below);
            judged = c.passes_by.ensures.judged;
            last = λ reached. absurd (omega (arith, subst (λ seen. max c.args.place 1 ≤ seen.count) w.seen-is reached, sought, open_yet));
          }
    ]

pub overflow_add-passing : goal.overflow_add-passing
overflow_add-passing c =
    let nodes = lent_nodes c.args.lent in
    let k = c.loop-lent.next in
    let p = passes c.args.tree.now.nodes c.args.axis c.args.test.now in
    omega (arith, c.count_behind-passing.ensures, few_pass p (drop k nodes), length-drop k nodes, c.loop-lent.invariant.few, c.loop-lent.invariant.within, c.len-on_axis.ensures, c.len-on_axis.type_inv)

pub returns : goal.returns
returns c =
    let nodes = lent_nodes c.args.lent in
    let k = c.loop-lent.next in
    let p = passes c.args.tree.now.nodes c.args.axis c.args.test.now in
    let told = c.loop-lent.invariant.told in
    let sought : max c.loop-lent.seen.place 1 ≡ max c.args.place 1 = ap (λ i. max i 1) told.sought in
    let parts : filter p nodes ≡ filter p (take k nodes) ++ filter p (drop k nodes) =
    ap (filter p) (sym (take-append-drop k nodes)) ∙ filter-append p (take k nodes) (drop k nodes) in
    let all : length (filter p nodes) ≡ length (filter p (take k nodes)) + length (filter p (drop k nodes)) =
    ap (λ l. length (filter p l)) (sym (take-append-drop k nodes)) ∙ count_both p (take k nodes) (drop k nodes) in
    elim c.if-is_done.branch [
      | then-is_done w ↦
          let reached : max c.loop-lent.seen.place 1 ≤ c.loop-lent.seen.count = leb-true _ _ (sym c.is_done-2.ensures ∙ w.if-is_done.true) in
          record {
            on_axis = c.len-on_axis.ensures;
            passing = omega (arith, w.passing-is, told.count, w.count_behind-passing.ensures, all);
            node = told.node ∙ (node_stays c.args.place (filter p (take k nodes)) (filter p (drop k nodes)) (λ short. absurd (omega (arith, short, sought, reached, told.count)))
                ∙ ap (node_at c.args.place) (sym parts));
          }
      | else-is_done w ↦
          let over : length nodes ≤ k = elim c.loop-lent-test.branch [
            | then-loop-lent-test+else-next-on_axis v ↦ omega (arith, v.if-next-on_axis.false, c.len-on_axis.ensures)
            | else-loop-lent-test v ↦ absurd (true≢false (sym v.loop-lent-test.false ∙ (c.is_done.ensures ∙ (sym c.is_done-2.ensures ∙ w.if-is_done.false))))
          ] in
          let none : filter p (drop k nodes) ≡ [] = ap (filter p) (drop_all k nodes over) in
          record {
            on_axis = c.len-on_axis.ensures;
            passing = omega (arith, w.passing-is, told.count, all, ap length none);
            node = told.node ∙ (node_stays c.args.place (filter p (take k nodes)) (filter p (drop k nodes)) (λ _. none) ∙ ap (node_at c.args.place) (sym parts));
          }
    ]
