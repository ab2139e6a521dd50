use Rattle.pyx_core.proofs.StandingLemmas.{settles}
use Rattle.pyx_core.specs.inner.Standing.{attribute_line}
use Rattle.pyx_core.proofs.standing.Standing.attribute.Goals as goal

pub returns : goal.returns
returns c = λ mode taken before reads.
    settles _ mode taken before (attribute_line c.args.name.now c.args.value.now) c.attribute.result reads.mode_is reads.opened
    reads.named reads.item
    (rw (c.in_ok-name.ensures, c.in_ok-value.ensures) at (c.attribute.ensures taken _ _ reads.told))
