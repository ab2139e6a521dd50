-- The cells of the units are what is seen.
use Rattle.std.proofs.Common.{◌≡◌, ℕ, false, List, subst}
use Rattle.doc_tree.specs.cell.Cell.{Cell}
use Rattle.cell_index.specs.Index.{Stays, has}
use Rattle.cell_index.specs.inner.Sharing.{held_of}
use Rattle.cell_index.proofs.SharingLemmas.{none_any}
use Rattle.cell_index.proofs.cell_index.CellIndex.take.Goals as goal

pub returns-in_err-unit-clause-none : goal.returns-in_err-unit-clause-none
returns-in_err-unit-clause-none c =
    none_any c.from_residual.result
    (subst (λ (held : List (List Cell)). (u : ℕ) → has held u c.args.cell.now ≡ false) c.self.view_is c.in_err-unit.ensures.none)

pub returns-in_err-unit-clause-unchanged : goal.returns-in_err-unit-clause-unchanged
returns-in_err-unit-clause-unchanged c =
    none_any c.from_residual.result
    (subst (λ (held : List (List Cell)). Stays held (held_of c.take_unit.new.sets c.take_unit.new.units)) c.self.view_is c.in_err-unit.ensures.unchanged)
