use Rattle.std.proofs.Common.{sym, ◌∙◌, ap}
use Rattle.pyx_core.specs.inner.Begun.{shown}
use Rattle.pyx_core.proofs.StandingLemmas.{begins, begins_takes, not_element}
use Rattle.pyx_core.proofs.standing.Standing.takes_attribute.Goals as goal

pub returns-in-Element : goal.returns-in-Element
returns-in-Element c = λ mode taken before reads.
    ap (λ b. begins (shown b)) (sym c.in-Element.is) ∙ (ap begins reads.told.begun_is ∙ begins_takes mode before)

pub returns-in_default : goal.returns-in_default
returns-in_default c = λ mode taken before reads.
    not_element c.args.self.now.events.begun c.in_default.not-Element
    ∙ (ap begins reads.told.begun_is ∙ begins_takes mode before)
