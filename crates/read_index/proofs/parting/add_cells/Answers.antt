-- Few cells come to the one index; of many each part to its own.
use Rattle.cell_index.proofs.SharingLemmas.{ok_then}
use Rattle.read_index.proofs.PartingLemmas.{adds_both}
use Rattle.read_index.proofs.parting.add_cells.Goals as goal

pub returns-clause-added : goal.returns-clause-added
returns-clause-added c =
    ok_then c.add_part-2.result
    (adds_both c.args.unit c.args.cells.now c.args.index.now c.args.named.now c.add_part.new.index c.add_part-2.new.index
    c.in_ok-add_part.ensures.added)
    c.add_part-2.ensures.added
