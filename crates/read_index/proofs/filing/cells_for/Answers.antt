-- One more, and at last all.
use Rattle.read_index.proofs.FilingLemmas.{filed_all, filed_more}
use Rattle.read_index.proofs.filing.cells_for.Goals as goal

pub loop-item-preserved : goal.loop-item-preserved
loop-item-preserved c =
    filed_more c.args.far c.args.names.now c.loop-item.item-index c.item-item.result c.loop-item.cells.items c.push_for.new.cells.items
    c.loop-item-test.true
    c.item-item.is c.in_ok-push_for.ensures c.loop-item.invariant

pub returns : goal.returns
returns c = filed_all c.args.far c.args.names.now c.loop-item.item-index c.loop-item.cells.items c.loop-item-test.false c.loop-item.invariant
