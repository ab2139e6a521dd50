-- The cells and the names stand for what is held.
use Rattle.std.proofs.Common.{◌∙◌, ap}
use Rattle.std.specs.FinSet.{from_list}
use Rattle.xp_cells.proofs.CellLemmas.{cells_listed, if_ok}
use Rattle.xp_cells.proofs.cells_read.Goals as goal

pub returns : goal.returns
returns c =
    if_ok c.with_names.result
    (λ list is. ap from_list is ∙ cells_listed c.args.tree.now.nodes c.args.reads.now c.cells.result.now c.names.result.now c.cells.ensures c.names.ensures)
    c.with_names.ensures
