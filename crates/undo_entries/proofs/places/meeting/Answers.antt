-- Three kids at a time tell whether the node stands between two texts.
use Rattle.std.proofs.Common.{◌≡◌, ◌-◌, ◌<◌, true, false, length, ap, ap₂, sym, ◌∙◌, arith, eqb, eqb-true, nat_eq}
use Rattle.edit_commands.proofs.MeetingLemmas.{at, both-found, further, kid-there, none-left}
use Rattle.undo_entries.specs.inner.Parts.{both_texts}
use Rattle.undo_entries.proofs.places.meeting.Goals as goal

pub returns-then-eq : goal.returns-then-eq
returns-then-eq c =
    let low : c.loop-i.i < length c.args.kids.now = omega arith in
    let middle : c.index-kids-i.result ≡ at c.args.kids.now (c.loop-i.i - 1) = kid-there c.args.kids.now (c.loop-i.i - 1) c.index-kids-i.result (omega arith) c.index-kids-i.is in
    let left : c.index-kids-i-then-eq.result ≡ at c.args.kids.now (c.loop-i.i - 2) =
    kid-there c.args.kids.now (c.loop-i.i - 2) c.index-kids-i-then-eq.result (omega arith) c.index-kids-i-then-eq.is in
    let right : c.index-kids-i-then-eq-2.result ≡ at c.args.kids.now c.loop-i.i = kid-there c.args.kids.now c.loop-i.i c.index-kids-i-then-eq-2.result low c.index-kids-i-then-eq-2.is in
    let same : nat_eq c.index-kids-i.result c.args.n ≡ true = sym c.eq.ensures ∙ c.if-eq.true in
    c.texts.ensures
    ∙ (ap₂ (both_texts c.args.tree.now.nodes) left right
    ∙ both-found c.args.tree.now.nodes c.args.n c.args.kids.now c.loop-i.i c.loop-i.invariant.within low c.loop-i.invariant.same (sym middle ∙ eqb-true c.index-kids-i.result c.args.n same))

pub loop-i-preserved : goal.loop-i-preserved
loop-i-preserved c =
    let middle : c.index-kids-i.result ≡ at c.args.kids.now (c.loop-i.i - 1) = kid-there c.args.kids.now (c.loop-i.i - 1) c.index-kids-i.result (omega arith) c.index-kids-i.is in
    let other : nat_eq c.index-kids-i.result c.args.n ≡ false = sym c.eq.ensures ∙ c.if-eq.false in
    record {
      within = omega (arith, c.loop-i.invariant.within);
      same = further c.args.tree.now.nodes c.args.n c.args.kids.now c.loop-i.i c.loop-i.invariant.within (omega arith) c.loop-i.invariant.same
          (ap (λ k. eqb k c.args.n) (sym middle) ∙ other);
    }

pub returns : goal.returns
returns c = sym (sym c.loop-i.invariant.same ∙ none-left c.args.tree.now.nodes c.args.n c.loop-i.i c.args.kids.now c.loop-i.invariant.within (omega arith))
