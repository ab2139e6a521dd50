-- The cells that are added are those of the part.
use Rattle.std.proofs.Common.{◌∙◌, List, ap}
use Rattle.doc_tree.specs.cell.Cell.{Cell}
use Rattle.cell_index.specs.Cells.{is_among}
use Rattle.read_index.proofs.FilingLemmas.{added_elsewhere}
use Rattle.read_index.proofs.PartingLemmas.{added_part}
use Rattle.read_index.proofs.parting.add_part.Goals as goal

pub returns-clause-added : goal.returns-clause-added
returns-clause-added c =
    added_part c.add.result c.args.names c.args.unit c.args.cells.now c.as_slice.result.now c.args.index.now c.add.new.self
    (λ cell. ap (λ (cells : List Cell). is_among cells cell) c.as_slice.ensures.value ∙ c.in_ok-part.ensures cell)
    c.add.ensures.added

pub returns-clause-others : goal.returns-clause-others
returns-clause-others c =
    added_elsewhere c.add.result c.args.unit c.as_slice.result.now c.args.index.now c.add.new.self c.add.ensures.added c.add.ensures.unchanged
