-- All below a node stand once, so that a kid with all below it is as it was until it is cleared.
use Rattle.std.proofs.Common.{◌≡◌, ◌<◌, sym, ap, ◌∙◌, subst, length, get_or, arith}
use Rattle.doc_table.specs.Table.{kids_of}
use Rattle.doc_edits.proofs.ClearingLemmas.{none-yet, kid-more, all-kids, branch-kids, branch-attributes, front_of}
use Rattle.doc_edits.specs.inner.Removing.{emptied}
use Rattle.doc_edits.proofs.removing.+clear.Goals as goal

pub loop-kid-init : goal.loop-kid-init
loop-kid-init t c = record {
  counted = c.take_all.ensures.counted;
  less = omega (arith, c.take_all.ensures.fewer, c.in-Some.ensures.less);
  names = c.take_all.ensures.names ∙ c.take.ensures.names;
  cap = c.take_all.ensures.cap ∙ c.take.ensures.cap;
  nodes = λ T b. none-yet T c.args.n c.as_slice.result.now c.args.bare.now.nodes c.take.new.bare.nodes c.take_all.new.bare.nodes
      (c.as_slice.ensures ∙ sym (branch-attributes T c.args.bare.now c.args.n c.in-Some.node b c.in-Some.ensures.was)) c.take.ensures.taken c.take_all.ensures.taken;
}

pub clear-requires : goal.clear-requires
clear-requires t c = (omega (arith, c.decreases, c.loop-kid.invariant.less), c.loop-kid.invariant.counted)

pub loop-kid-preserved : goal.loop-kid-preserved
loop-kid-preserved t c = record {
  counted = c.clear.ensures.counted;
  less = omega (arith, c.clear.ensures.fewer, c.loop-kid.invariant.less);
  names = c.clear.ensures.names ∙ c.loop-kid.invariant.names;
  cap = c.clear.ensures.cap ∙ c.loop-kid.invariant.cap;
  nodes = λ T b.
      let kids : c.as_slice-kid-items.result.now ≡ kids_of T c.args.n =
      c.as_slice-kid-items.ensures ∙ sym (branch-kids T c.args.bare.now c.args.n c.in-Some.node b c.in-Some.ensures.was) in
      kid-more T c.args.bare.now c.loop-kid.bare c.clear.new.bare c.args.n c.loop-kid.kid-index c.kid-item.result b c.loop-kid.invariant.names
      (subst (λ l. c.loop-kid.kid-index < length l) kids c.loop-kid-test.true)
      (c.kid-item.is ∙ ap (λ l. get_or l c.loop-kid.kid-index c.kid-item.result) kids)
      (c.loop-kid.invariant.nodes T b) c.clear.ensures.cleared;
}

pub returns-after-loop-kid-clause-counted : goal.returns-after-loop-kid-clause-counted
returns-after-loop-kid-clause-counted t c = c.loop-kid.invariant.counted

pub returns-after-loop-kid-clause-cleared : goal.returns-after-loop-kid-clause-cleared
returns-after-loop-kid-clause-cleared t c = λ T b.
    let kids : c.as_slice-kid-items.result.now ≡ kids_of T c.args.n =
    c.as_slice-kid-items.ensures ∙ sym (branch-kids T c.args.bare.now c.args.n c.in-Some.node b c.in-Some.ensures.was) in
    let at_end : c.loop-kid.kid-index ≡ length (kids_of T c.args.n) = omega (arith, ap length kids, c.loop-kid-test.false, c.loop-kid.auto.kid-index-end) in
    c.loop-kid.invariant.nodes T b
    ∙ ap (λ l. emptied l c.args.bare.now.nodes) (ap (front_of T c.args.n) at_end ∙ all-kids T c.args.n b.formed)
