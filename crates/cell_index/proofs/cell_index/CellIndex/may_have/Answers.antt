-- A unit has what its set has.
use Rattle.std.proofs.Common.{◌≡◌, ℕ, false, List, subst}
use Rattle.std.specs.Bool.{OnFalse}
use Rattle.doc_tree.specs.cell.Cell.{Cell}
use Rattle.cell_index.specs.Index.{has}
use Rattle.cell_index.proofs.SharingLemmas.{none_have}
use Rattle.cell_index.proofs.cell_index.CellIndex.may_have.Goals as goal

pub returns : goal.returns
returns c =
    subst (λ (held : List (List Cell)). OnFalse c.may_have.result ((u : ℕ) → has held u c.args.cell.now ≡ false)) c.self.view_is
    (none_have c.may_have.result c.self.inside.sets c.self.inside.units c.args.cell.now c.may_have.ensures)
