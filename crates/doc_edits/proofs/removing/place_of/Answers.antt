-- A number that stood nowhere before stands here, or not up to here either.
use Rattle.std.proofs.Common.{eqb-true, eq-eqb, true≢false, sym, ◌∙◌}
use Rattle.doc_edits.proofs.UnlinkingLemmas.{none-more, split-found}
use Rattle.doc_edits.proofs.removing.place_of.Goals as goal

pub loop-place-preserved : goal.loop-place-preserved
loop-place-preserved c =
    none-more c.args.n c.loop-place.place c.index-list-place.result c.args.list.now c.loop-place-test.true c.index-list-place.is
    (λ e. true≢false (sym (eq-eqb c.index-list-place.result c.args.n e) ∙ (sym c.eq.ensures ∙ c.if-eq.false))) c.loop-place.invariant

pub returns-then-eq : goal.returns-then-eq
returns-then-eq c = (
  c.loop-place-test.true,
  split-found c.args.n c.loop-place.place c.index-list-place.result c.args.list.now c.loop-place-test.true c.index-list-place.is
      (eqb-true c.index-list-place.result c.args.n (sym c.eq.ensures ∙ c.if-eq.true)),
  c.loop-place.invariant,
)
