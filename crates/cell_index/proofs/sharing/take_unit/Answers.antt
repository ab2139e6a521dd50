-- No set has the cell, so that no unit has it.
use Rattle.std.proofs.Common.{◌∙◌, ℕ, List, ap, sym}
use Rattle.doc_tree.specs.cell.Cell.{Cell}
use Rattle.cell_index.specs.Index.{Stays, has}
use Rattle.cell_index.specs.inner.Sharing.{cells_of_set, held_of, set_of}
use Rattle.cell_index.proofs.SharingLemmas.{has_view, stays_alike}
use Rattle.cell_index.proofs.sharing.take_unit.Goals as goal

pub returns-clause-none : goal.returns-clause-none
returns-clause-none c = λ u.
    let first = c.args.sets.now in
    let sets = c.loop-set.sets in
    let units = c.loop-set.units in
    let stays : Stays (held_of first c.args.units.now) (held_of sets units) =
    stays_alike first sets c.args.units.now units (λ v. c.loop-set.invariant.cells v ∙ ap (λ (all : List ℕ). cells_of_set first (set_of all v)) c.loop-set.invariant.units) in
    sym (stays u c.args.cell.now) ∙ has_view sets units u c.args.cell.now ∙ c.in_default.ensures.none (set_of units u)

pub returns-clause-unchanged : goal.returns-clause-unchanged
returns-clause-unchanged c = λ u cell.
    let first = c.args.sets.now in
    let sets = c.loop-set.sets in
    let units = c.loop-set.units in
    let stays : Stays (held_of first c.args.units.now) (held_of sets units) =
    stays_alike first sets c.args.units.now units (λ v. c.loop-set.invariant.cells v ∙ ap (λ (all : List ℕ). cells_of_set first (set_of all v)) c.loop-set.invariant.units) in
    ap (λ (all : List (List Cell)). has (held_of all units) u cell) c.in_default.ensures.same ∙ stays u cell
