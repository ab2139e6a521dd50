-- Each attribute lives; one that was not written whole leaves a front of all.
use Rattle.doc_write.specs.inner.Parts.{opening_text}
use Rattle.doc_write.proofs.PartLemmas.{mem-at}
use Rattle.sch_io.proofs.Writes.{wrote_cut}
use Rattle.doc_write.proofs.tree.write_attributes.Goals as goal

pub write_opening-requires : goal.write_opening-requires
write_opening-requires g c = c.requires c.attr-item.result (mem-at c.args.attrs.now c.loop-attr.attr-index c.attr-item.result c.attr-item.is c.loop-attr-test.true)

pub returns-in_err-write_opening : goal.returns-in_err-write_opening
returns-in_err-write_opening g c =
    wrote_cut (opening_text c.args.tree.now.nodes) c.args.attrs.now c.loop-attr.attr-index c.attr-item.result c.from_residual.result c.from_residual.ensures.0
    c.attr-item.is c.loop-attr-test.true c.loop-attr.invariant c.in_err-write_opening.ensures
