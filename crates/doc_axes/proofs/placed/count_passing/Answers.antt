-- One more node is looked at, and then some that pass.
use Rattle.std.proofs.Common.{◌≡◌, ◌+◌, ◌≤◌, Bool, true, false, cond, drop, filter, take, length, refl, subst, sym, ap, ◌∙◌, arith}
use mir.Val.{bool_byte}
use Rattle.std.proofs.lemmas.List.{length-drop, take_all}
use Rattle.doc_tree.specs.Lists.{mem}
use Rattle.doc_tree.proofs.ListLemmas.{mem-get}
use Rattle.doc_axes.specs.NodeTests.{passes}
use Rattle.doc_axes.proofs.Lending.{count_run}
use Rattle.doc_axes.proofs.placed.count_passing.Goals as goal

byte_is : (b : Bool) → bool_byte b ≡ cond b 1 0
byte_is true = refl
byte_is false = refl

one_at_most : (b : Bool) → cond b 1 0 ≤ 1
one_at_most true = omega arith
one_at_most false = omega arith

pub passes_by-passes-requires-clause-live : goal.passes_by-passes-requires-clause-live
passes_by-passes-requires-clause-live c =
    let nodes = c.args.nodes.now in
    let n = c.index-nodes-place.result in
    c.requires.live n (subst (λ m. mem m nodes ≡ true) (sym c.index-nodes-place.is) (mem-get nodes c.loop-place.place n c.loop-place-test.true))

pub loop-place-preserved : goal.loop-place-preserved
loop-place-preserved c =
    let nodes = c.args.nodes.now in
    let k = c.loop-place.place in
    let n = c.index-nodes-place.result in
    let m = c.accepted_in_front-more.result in
    let p = passes c.args.tree.now.nodes c.args.axis c.args.test.now in
    let one : c.from.result ≡ cond c.passes_by-passes.result 1 0 = c.from.ensures ∙ byte_is c.passes_by-passes.result in
    let behind = c.split_at.ensures.back in
    let fits : m ≤ length (drop (k + 1) nodes) = subst (λ l. m ≤ length l) behind c.accepted_in_front-more.ensures.within in
    let run = count_run p nodes k n m c.passes_by-passes.result c.loop-place-test.true c.index-nodes-place.is (sym c.passes_by-passes.ensures.passes) fits
    (λ x there. c.accepted_in_front-more.ensures.accepted c.args.test.now c.passes_by-passes.ensures.judged x
    (subst (λ l. mem x (take m l) ≡ true) (sym behind) there)) in
    let single : cond c.passes_by-passes.result 1 0 ≤ 1 = one_at_most c.passes_by-passes.result in
    record {
      within = omega (arith, fits, length-drop (k + 1) nodes, c.loop-place-test.true);
      few = omega (arith, c.loop-place.invariant.few, one, single);
      counted = omega (arith, run, one, c.loop-place.invariant.counted);
      judged = c.passes_by-passes.ensures.judged;
    }

pub returns-clause-counted : goal.returns-clause-counted
returns-clause-counted c =
    let p = passes c.args.tree.now.nodes c.args.axis c.args.test.now in
    c.loop-place.invariant.counted
    ∙ ap (λ l. length (filter p l)) (take_all c.loop-place.place c.args.nodes.now (omega (arith, c.loop-place-test.false)))
