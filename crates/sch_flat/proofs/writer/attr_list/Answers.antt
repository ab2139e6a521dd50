-- One attribute more.
use Rattle.std.proofs.Common.{◌++◌, ◌∷◌, [], ap, sym, ◌∙◌}
use Rattle.sch_flat.specs.FlatDocument.{only_given}
use Rattle.sch_flat.specs.inner.Given.{seen}
use Rattle.sch_flat.proofs.ListLemmas.{only_given_next}
use Rattle.sch_flat.proofs.writer.attr_list.Goals as goal

pub loop-given-preserved : goal.loop-given-preserved
loop-given-preserved c =
    c.in_ok-push_given.ensures
    ∙ ap (λ l. l ++ only_given (seen c.given-item.result ∷ [])) c.loop-given.invariant
    ∙ sym (only_given_next c.args.attributes.now c.loop-given.given-index c.given-item.result c.given-item.is c.loop-given-test.true)
