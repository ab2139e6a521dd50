-- Each set that has the cell is in its chain.
use Rattle.std.proofs.Common.{◌≡◌, ℕ, false, List, subst}
use Rattle.std.specs.Bool.{OnFalse}
use Rattle.doc_tree.specs.cell.Cell.{Cell}
use Rattle.cell_index.specs.inner.Sharing.{set_has}
use Rattle.cell_index.proofs.SharingLemmas.{none_chained}
use Rattle.cell_index.proofs.cell_sets.CellSets.may_have.Goals as goal

pub returns : goal.returns
returns c =
    subst (λ (sets : List (List Cell)). OnFalse c.has_any.result ((set : ℕ) → set_has sets set c.args.cell.now ≡ false)) c.self.view_is
    (none_chained c.has_any.result c.self.inside.sets.items c.self.inside.readers c.args.cell.now c.cell_number.result c.cell_number.ensures
    c.self.invariant
    c.has_any.ensures)
