-- What is seen stays, but for the cells of sets that no unit has.
use Rattle.std.proofs.Common.{◌∙◌, ℕ, List, ap}
use Rattle.doc_tree.specs.cell.Cell.{Cell}
use Rattle.cell_index.specs.inner.Sharing.{cells_of_set, set_of}
use Rattle.cell_index.proofs.SharingLemmas.{stays_alike}
use Rattle.cell_index.proofs.sharing.renew.Goals as goal

pub returns : goal.returns
returns c =
    let first = c.args.sets.now in
    let units = c.renew.new.self in
    stays_alike first c.renew-2.new.self c.args.units.now units
    (λ u. ap (λ (all : List (List Cell)). cells_of_set all (set_of units u)) c.renew-2.ensures ∙ c.clear_unused.ensures u ∙ ap (λ (all : List ℕ). cells_of_set first (set_of all u)) c.renew.ensures)
