use Rattle.std.proofs.Common.{suc, length, sym, subst}
use Rattle.pyx_core.specs.declared.line_table.Line.TheVariants.{Chars}
use Rattle.pyx_core.specs.Before.{pending, closed, but_text, with_text}
use Rattle.pyx_core.specs.inner.Begun.{Goes}
use Rattle.pyx_core.proofs.LiteralLines.{inside_kept}
use Rattle.pyx_core.proofs.StandingLemmas.{settles}
use Rattle.pyx_core.proofs.standing.Standing.chars.Goals as goal

pub returns : goal.returns
returns c = λ mode taken before reads number inside.
    let goes : Goes c.lent_text.new.self taken (closed mode before) (but_text (pending mode before))
    (with_text (suc (length before)) c.args.text.now (pending mode before)) c.lent_text.result =
    rw number at (c.lent_text.ensures taken _ _ reads.told) in
    settles _ mode taken before (Chars c.args.text.now) c.lent_text.result reads.mode_is reads.opened reads.named
    (c.has_item_after_chars-self.ensures mode taken before reads)
    (subst (λ t. Goes c.lent_text.new.self taken (closed mode before) (but_text (pending mode before))
    (with_text (suc (length before)) t (pending mode before)) c.lent_text.result)
    (sym (inside_kept mode before c.args.text.now inside)) goes)
