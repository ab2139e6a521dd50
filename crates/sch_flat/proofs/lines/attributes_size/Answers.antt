-- One attribute more.
use Rattle.std.proofs.Common.{◌∷◌, [], map, take, ap, sym, ◌∙◌}
use Rattle.sch_flat.specs.FlatDocument.{only_given}
use Rattle.sch_flat.specs.inner.Given.{seen}
use Rattle.sch_flat.specs.inner.Sizes.{attrs_size, sum_of}
use Rattle.sch_flat.proofs.ListLemmas.{only_given_next}
use Rattle.sch_flat.proofs.SizeLemmas.{attrs_append}
use Rattle.sch_flat.proofs.lines.attributes_size.Goals as goal

pub loop-given-preserved : goal.loop-given-preserved
loop-given-preserved c =
    let before = only_given (map seen (take c.loop-given.given-index c.args.attributes.now)) in
    let here = only_given (seen c.given-item.result ∷ []) in
    c.plus-size.ensures
    ∙ ap (λ s. sum_of s c.given_size.result) c.loop-given.invariant
    ∙ ap (sum_of (attrs_size before)) c.given_size.ensures
    ∙ sym (attrs_append before here)
    ∙ ap attrs_size (sym (only_given_next c.args.attributes.now c.loop-given.given-index c.given-item.result c.given-item.is c.loop-given-test.true))
