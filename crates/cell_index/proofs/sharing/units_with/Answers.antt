-- The units of the sets that have one of the cells.
use Rattle.std.proofs.Common.{ℕ, List, [], subst}
use Rattle.std.specs.List.{list_any}
use Rattle.cell_index.specs.inner.Gathering.{Finds}
use Rattle.cell_index.specs.inner.Sharing.{is_member}
use Rattle.cell_index.proofs.SharingLemmas.{those_shared}
use Rattle.cell_index.proofs.sharing.units_with.Goals as goal

pub returns : goal.returns
returns c =
    let units = c.args.units.now in
    let found = c.in_ok-found.found.items in
    those_shared c.args.sets.now units c.args.cells.now c.in_ok-with.field-0.items c.in_order-numbers.result.items found c.in_order.result.items
    c.in_ok-with.ensures c.in_order-numbers.ensures.each c.in_order-numbers.ensures.all
    (subst (λ (numbers : List ℕ). Finds (λ (unit : ℕ). list_any (λ (set : ℕ). is_member units set unit) numbers) [] found) c.as_slice.ensures.value c.in_ok-found.ensures)
    c.in_order.ensures.rising c.in_order.ensures.each c.in_order.ensures.all
