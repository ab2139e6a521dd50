-- An attribute that was not written whole leaves a front of all.
use Rattle.std.proofs.Math.Seq.{take_all}
use Rattle.pyx_write.specs.inner.Given.{given_line}
use Rattle.sch_io.proofs.Writes.{wrote_cut}
use Rattle.pyx_write.proofs.Handed.{attributes_are}
use Rattle.pyx_write.proofs.elements.write_attributes.Goals as goal

pub returns-in_err-write_attribute : goal.returns-in_err-write_attribute
returns-in_err-write_attribute g c = rw (attributes_are c.args.given.now)
    (wrote_cut given_line c.args.given.now c.loop-attribute.attribute-index c.attribute-item.result c.from_residual.result c.from_residual.ensures.0 c.attribute-item.is c.loop-attribute-test.true c.loop-attribute.invariant c.in_err-write_attribute.ensures)

pub returns : goal.returns
returns g c = rw (attributes_are c.args.given.now) (rw (take_all c.loop-attribute.attribute-index c.args.given.now c.loop-attribute-test.false) at c.loop-attribute.invariant)
