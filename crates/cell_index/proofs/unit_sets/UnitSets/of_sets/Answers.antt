-- The sets of the units are what is seen.
use Rattle.std.proofs.Common.{◌∙◌, ℕ, List, [], IfOk, sym, subst}
use Rattle.std.specs.List.{list_any}
use Rattle.cell_index.specs.inner.Gathering.{Finds}
use Rattle.cell_index.specs.inner.Sharing.{AreMembers, is_member}
use Rattle.cell_index.proofs.SharingLemmas.{if_ok_then}
use Rattle.cell_index.proofs.unit_sets.UnitSets.of_sets.Goals as goal

pub returns : goal.returns
returns c =
    let of_unit = c.as_slice.result.now in
    let members = c.self.inside.members in
    subst (λ (own : List ℕ). IfOk c.units_of.result (λ found. Finds (λ (unit : ℕ). list_any (λ (set : ℕ). is_member own set unit) c.args.sets.now) [] found.items))
    (c.as_slice.ensures.value ∙ c.self.view_is)
    (if_ok_then c.units_of.result (λ found all. all (subst (λ (own : List ℕ). AreMembers own members) (sym c.as_slice.ensures.value) c.self.invariant)) c.units_of.ensures)
