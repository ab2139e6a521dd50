use Rattle.std.proofs.Common.{sym, ◌∙◌}
use Rattle.pyx_core.proofs.LiteralLines.{attribute_good}
use Rattle.pyx_core.proofs.standing.Standing.literal_attribute.Goals as goal

pub returns-then-is_qname : goal.returns-then-is_qname
returns-then-is_qname c = λ mode taken before reads.
    attribute_good mode before c.args.bytes.now c.in_ok-body.body.now c.parts.result.0.now c.parts.result.1.now
    c.in_ok-body.ensures (sym (c.takes_attribute.ensures mode taken before reads) ∙ c.if-takes_attribute.true)
    c.parts.ensures.name c.parts.ensures.text (sym c.is_qname.ensures ∙ c.if-is_qname.true)
