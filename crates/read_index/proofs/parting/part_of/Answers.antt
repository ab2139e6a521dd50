-- One more, and at last all.
use Rattle.read_index.proofs.PartingLemmas.{parted_all, parted_more}
use Rattle.read_index.proofs.parting.part_of.Goals as goal

pub loop-cell-preserved : goal.loop-cell-preserved
loop-cell-preserved c =
    parted_more c.args.names c.args.cells.now c.loop-cell.cell-index c.cell-item.result c.loop-cell.part.items c.push_for.new.part.items
    c.loop-cell-test.true
    c.cell-item.is c.in_ok-push_for.ensures c.loop-cell.invariant

pub returns : goal.returns
returns c = parted_all c.args.names c.args.cells.now c.loop-cell.cell-index c.loop-cell.part.items c.loop-cell-test.false c.loop-cell.invariant
