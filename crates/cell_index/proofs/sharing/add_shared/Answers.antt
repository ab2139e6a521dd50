-- The unit gets the set of all its cells; a set that was made had no unit.
use Rattle.std.proofs.Common.{◌≡◌, ◌∙◌, ◌||◌, List, ap}
use Rattle.doc_tree.specs.cell.Cell.{Cell}
use Rattle.cell_index.specs.Cells.{is_among}
use Rattle.cell_index.specs.inner.Sharing.{cells_of_set, set_of}
use Rattle.cell_index.proofs.SharingLemmas.{adds_shared, err_any, err_then, ok_then, stays_alike}
use Rattle.cell_index.proofs.sharing.add_shared.Goals as goal

pub returns-in_err-set-clause-unchanged : goal.returns-in_err-set-clause-unchanged
returns-in_err-set-clause-unchanged c =
    err_any c.from_residual-in_err-set.result (stays_alike c.args.sets.now c.set_for.new.sets c.args.units.now c.args.units.now c.set_for.ensures.same)

pub returns-clause-added : goal.returns-clause-added
returns-clause-added c =
    let sets = c.args.sets.now in
    let units = c.args.units.now in
    let cells = c.args.cells.now in
    let both : (cell : Cell) → is_among c.in_ok-all.all cell ≡ (is_among (cells_of_set sets (set_of units c.args.unit)) cell || is_among cells cell) = λ cell.
    c.in_ok-all.ensures cell ∙ ap (λ (own : List Cell). is_among own cell || is_among cells cell) (c.cells-own.ensures ∙ ap (cells_of_set sets) c.set_of.ensures) in
    ok_then c.join.result (λ joins. adds_shared sets c.set_for.new.sets units c.join.new.self c.args.unit c.in_ok-set.set c.set_for.ensures.same joins cells c.in_ok-all.all c.in_ok-set.ensures.has both)
    c.join.ensures.joined

pub returns-clause-unchanged : goal.returns-clause-unchanged
returns-clause-unchanged c =
    err_then c.join.result (λ same. stays_alike c.args.sets.now c.set_for.new.sets c.args.units.now c.join.new.self (λ u. ap (cells_of_set c.set_for.new.sets) (same u) ∙ c.set_for.ensures.same u))
    c.join.ensures.unchanged
