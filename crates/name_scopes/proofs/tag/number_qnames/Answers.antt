-- A name that is new takes the next number.
use Rattle.std.proofs.Common.{◌≡◌, ◌+◌, ℕ, true, List, map, take, length, sym, ap, ◌∙◌, subst, arith}
use Rattle.std.proofs.lemmas.List.{length-take-le}
use Rattle.pyx_core.specs.declared.event.Attr.{Attr}
use Rattle.doc_tree.specs.Numbering.{Numbered}
use Rattle.name_scopes.specs.DocFaults.{has_pair, same_qname}
use Rattle.name_scopes.proofs.TagLemmas.{qname_key, qname-sound, qname-complete, new-again, new-once, pair-within, next, IsNew}
use Rattle.name_scopes.proofs.tag.number_qnames.Goals as goal

pub returns-then-number-count : goal.returns-then-number-count
returns-then-number-count c =
    let i : ℕ = c.loop-attr.attr-index in
    let xs : List Attr = c.args.attrs.now in
    let x : Attr = c.attr-item.result in
    let numbered : Numbered (map qname_key (take i xs)) c.number.new.self x.name c.in_ok-number.number =
    subst (λ (l : List (List ℕ)). Numbered l c.number.new.self x.name c.in_ok-number.number) c.loop-attr.invariant.named
    (subst (λ (w : List ℕ). Numbered c.loop-attr.names c.number.new.self w c.in_ok-number.number) c.as_str.ensures c.in_ok-number.ensures.numbered) in
    let short : length (take i xs) ≡ i = length-take-le i xs (omega (arith, c.loop-attr-test.true)) in
    let again : has_pair same_qname xs ≡ true =
    pair-within same_qname xs i x c.loop-attr-test.true c.attr-item.is
    (new-again qname_key same_qname qname-sound qname-complete (take i xs) x c.number.new.self c.in_ok-number.number c.loop-attr.invariant.apart numbered
    (λ e. c.if-number-count.true (e ∙ (short ∙ sym c.loop-attr.invariant.counted)))) in
    sym again

pub loop-attr-preserved : goal.loop-attr-preserved
loop-attr-preserved c =
    let i : ℕ = c.loop-attr.attr-index in
    let xs : List Attr = c.args.attrs.now in
    let x : Attr = c.attr-item.result in
    let numbered : Numbered (map qname_key (take i xs)) c.number.new.self x.name c.in_ok-number.number =
    subst (λ (l : List (List ℕ)). Numbered l c.number.new.self x.name c.in_ok-number.number) c.loop-attr.invariant.named
    (subst (λ (w : List ℕ). Numbered c.loop-attr.names c.number.new.self w c.in_ok-number.number) c.as_str.ensures c.in_ok-number.ensures.numbered) in
    let short : length (take i xs) ≡ i = length-take-le i xs (omega (arith, c.loop-attr-test.true)) in
    let new : IsNew qname_key same_qname (take i xs) x c.number.new.self =
    new-once qname_key same_qname qname-sound qname-complete (take i xs) x c.number.new.self c.in_ok-number.number c.loop-attr.invariant.apart numbered c.laws.ensures
    (c.if-number-count.false ∙ (c.loop-attr.invariant.counted ∙ sym short)) in
    let front = next (λ (a : Attr). true) xs i x c.loop-attr-test.true c.attr-item.is in
    record {
      counted = ap (λ k. k + 1) c.loop-attr.invariant.counted;
      named = new.keys ∙ ap (map qname_key) (sym front);
      apart = ap (has_pair same_qname) front ∙ new.apart;
    }
