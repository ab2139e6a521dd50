-- The cells that are added are those of the names.
use Rattle.std.proofs.Common.{◌∙◌, List, ap}
use Rattle.doc_tree.specs.cell.Cell.{Cell}
use Rattle.cell_index.specs.Cells.{is_among}
use Rattle.read_index.specs.inner.Filing.{filed}
use Rattle.read_index.proofs.FilingLemmas.{added_elsewhere, added_names}
use Rattle.read_index.proofs.filing.add_names.Goals as goal

pub returns-clause-added : goal.returns-clause-added
returns-clause-added c =
    added_names c.add.result c.args.far c.args.unit c.args.names.now c.as_slice.result.now c.args.index.now c.add.new.self
    (λ a is. ap (λ (cells : List Cell). is_among cells (filed a.axis a.node)) c.as_slice.ensures.value ∙ c.in_ok-cells.ensures a is)
    c.add.ensures.added

pub returns-clause-others : goal.returns-clause-others
returns-clause-others c =
    added_elsewhere c.add.result c.args.unit c.as_slice.result.now c.args.index.now c.add.new.self c.add.ensures.added c.add.ensures.unchanged
