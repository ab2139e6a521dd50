-- There is no set.
use Rattle.std.proofs.Common.{◌≡◌, ◌==◌, ℕ, false, List, subst, ap}
use Rattle.std.specs.Bool.{OnTrue}
use Rattle.doc_tree.specs.cell.Cell.{Cell}
use Rattle.cell_index.specs.Index.{has}
use Rattle.cell_index.proofs.SharingLemmas.{none_in}
use Rattle.cell_index.proofs.cell_index.CellIndex.is_unused.Goals as goal

pub returns : goal.returns
returns c =
    subst (λ (held : List (List Cell)). OnTrue (c.len.result == 0) ((u : ℕ) (cell : Cell) → has held u cell ≡ false)) c.self.view_is
    (none_in (c.len.result == 0) c.self.inside.sets c.self.inside.units (ap (λ (n : ℕ). n == 0) c.len.ensures))
