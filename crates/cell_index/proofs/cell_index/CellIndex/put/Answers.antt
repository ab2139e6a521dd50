-- The cells of the units are what is seen.
use Rattle.std.proofs.Common.{List, OnErr, subst}
use Rattle.doc_tree.specs.cell.Cell.{Cell}
use Rattle.cell_index.specs.Index.{Stays}
use Rattle.cell_index.specs.inner.Sharing.{held_of}
use Rattle.cell_index.proofs.cell_index.CellIndex.put.Goals as goal

pub returns-clause-unchanged : goal.returns-clause-unchanged
returns-clause-unchanged c =
    subst (λ (held : List (List Cell)). OnErr c.add_shared.result (Stays held (held_of c.add_shared.new.sets c.add_shared.new.units))) c.self.view_is c.add_shared.ensures.unchanged
