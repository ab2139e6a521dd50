use Rattle.std.proofs.Common.{◌∷◌, [], ◌++◌, ◌∙◌, ap, refl}
use Rattle.pyx_core.specs.declared.line_table.Line.TheVariants.{Start}
use Rattle.pyx_core.proofs.StandingLemmas.{settles}
use Rattle.pyx_core.proofs.standing.Standing.start.Goals as goal

pub returns : goal.returns
returns c = λ mode taken before reads number named.
    settles _ mode taken before (Start c.args.name.now) c.start.result reads.mode_is
    (c.in_ok-push.ensures.items
    ∙ (ap (λ t. c.args.self.now.opened.items ++ t ∷ []) c.in_ok-top.ensures ∙ ap (λ l. l ++ c.args.name.now ∷ []) reads.opened))
    named refl (rw (number, c.in_ok-name.ensures) at (c.start.ensures taken _ _ reads.told))
