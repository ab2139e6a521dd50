-- One id more.
use Rattle.std.proofs.Common.{◌++◌, ◌∷◌, ap, sym, ◌∙◌, take, append_assoc}
use Rattle.std.specs.Prelude.{codes}
use Rattle.sch_texts.specs.Ids.{spaced}
use Rattle.sch_texts.proofs.IdLemmas.{spaced_next}
use Rattle.sch_texts.proofs.ids.spaced_ids.Goals as goal

pub loop-id-preserved : goal.loop-id-preserved
loop-id-preserved c =
    let before = spaced (c.args.first.now ∷ take c.loop-id.id-index c.args.rest.now) in
    let id = c.as_str-in-loop-id.result.now in
    c.in_ok-push_str-2.ensures.bytes
    ∙ ap (λ l. l ++ id) (c.in_ok-push_str.ensures.bytes ∙ ap (λ l. l ++ codes " ") c.loop-id.invariant)
    ∙ append_assoc before (codes " ") id
    ∙ ap (λ x. before ++ (codes " " ++ x)) c.as_str-in-loop-id.ensures
    ∙ sym (spaced_next c.args.first.now c.args.rest.now c.loop-id.id-index c.id-item.result c.id-item.is c.loop-id-test.true)
