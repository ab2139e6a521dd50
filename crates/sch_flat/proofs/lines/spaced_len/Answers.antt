-- One id more.
use Rattle.std.proofs.Common.{◌∷◌, ◌+◌, length, take, ap, sym, ◌∙◌}
use Rattle.pyx_core.specs.Escapes.{escaped}
use Rattle.sch_texts.specs.Ids.{spaced}
use Rattle.sch_flat.specs.FlatSize.{capped}
use Rattle.sch_texts.proofs.IdLemmas.{spaced_next}
use Rattle.sch_flat.proofs.SizeLemmas.{spaced_len_next}
use Rattle.sch_flat.proofs.lines.spaced_len.Goals as goal

pub loop-id-preserved : goal.loop-id-preserved
loop-id-preserved c =
    let before = spaced (c.args.first.now ∷ take c.loop-id.id-index c.args.rest.now) in
    let id = c.id-item.result in
    c.saturating_add-len.ensures
    ∙ ap (λ n. capped (n + c.escaped_len.result)) c.saturating_add.ensures
    ∙ spaced_len_next c.loop-id.len c.escaped_len.result before id c.loop-id.invariant (c.escaped_len.ensures ∙ ap (λ t. capped (length (escaped t))) c.as_str-in-loop-id.ensures)
    ∙ ap (λ t. capped (length (escaped t))) (sym (spaced_next c.args.first.now c.args.rest.now c.loop-id.id-index id c.id-item.is c.loop-id-test.true))

pub loop-id-init : goal.loop-id-init
loop-id-init c = c.escaped_len-len.ensures ∙ ap (λ t. capped (length (escaped t))) c.as_str.ensures
