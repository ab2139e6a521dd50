use Rattle.pyx_write.proofs.Attributes.{wrote_cut, wrote_next}
use Rattle.pyx_write.proofs.event.write_attrs.Goals as goal

pub returns-in_err-write_one_attr : goal.returns-in_err-write_one_attr
returns-in_err-write_one_attr g c =
    wrote_cut c.args.attrs.now c.loop-attr.attr-index c.attr-item.result c.from_residual.result c.from_residual.ensures.0
    c.attr-item.is c.loop-attr-test.true c.loop-attr.invariant c.in_err-write_one_attr.ensures

pub loop-attr-preserved : goal.loop-attr-preserved
loop-attr-preserved g c =
    wrote_next c.args.attrs.now c.loop-attr.attr-index c.attr-item.result c.attr-item.is c.loop-attr-test.true
    c.loop-attr.invariant c.in_ok-write_one_attr.ensures
