use Rattle.std.proofs.Common.{sym, ◌∙◌}
use Rattle.pyx_core.proofs.LiteralLines.{inside_good}
use Rattle.pyx_core.proofs.standing.Standing.literal_chars.Goals as goal

pub returns : goal.returns
returns c = λ mode taken before reads.
    inside_good mode before c.args.bytes.now c.in_ok-text.text.now c.in_ok-text.ensures
    (sym (c.at_top.ensures mode taken before reads) ∙ c.if-at_top.false)
