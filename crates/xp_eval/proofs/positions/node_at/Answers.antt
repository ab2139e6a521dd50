-- The place is counted from 1.
use Rattle.std.proofs.Common.{◌≡◌, ℕ, ◌-◌, arith, refl, sym, ◌∙◌, ap, ltb-false, ltb-true}
use Rattle.std.proofs.lemmas.Option.{slice_get_read}
use Rattle.doc_axes.specs.Places.{node_at}
use Rattle.xp_eval.proofs.Places.{at-behind, get-past}
use Rattle.xp_eval.proofs.positions.node_at.Goals as goal

pub returns-then-place-eq0 : goal.returns-then-place-eq0
returns-then-place-eq0 c =
    let first : c.args.place ≡ 0 = omega (arith, c.if-place-eq0.true) in
    sym (ap (λ (place : ℕ). node_at place c.args.nodes.now) first)

pub returns-in-Some : goal.returns-in-Some
returns-in-Some c =
    sym (at-behind c.args.place c.args.nodes.now (λ none. absurd (omega (arith, none, c.if-place-eq0.false)))
    ∙ slice_get_read c.args.nodes.now _ (c.args.place - 1) c.in-Some.n.now refl (ltb-true _ _ (sym c.in-Some.ensures.lookup.0)) c.in-Some.ensures.lookup.1)

pub returns-in-None : goal.returns-in-None
returns-in-None c =
    sym (at-behind c.args.place c.args.nodes.now (λ none. absurd (omega (arith, none, c.if-place-eq0.false)))
    ∙ get-past c.args.nodes.now (c.args.place - 1) (ltb-false _ _ (sym c.in-None.ensures.lookup.0)))
