-- No number is less than the first.
use Rattle.std.proofs.Common.{◌≡◌, ◌∙◌, ℕ, List, Some, ap, slice_get, sym}
use Rattle.std.specs.Option.{option_copied}
use Rattle.std.proofs.lemmas.Option.{get_or_from_slice_get, slice_get_within}
use Rattle.cell_covers.proofs.FindLemmas.{root_first}
use Rattle.cell_covers.proofs.node_set.NodeSet.has_root.Goals as goal

pub returns-in-Some : goal.returns-in-Some
returns-in-Some c =
    let numbers = c.args.self.now.numbers.items in
    let at : slice_get numbers 0 ≡ Some c.in-Some.number.now =
    sym (ap (λ (ns : List ℕ). slice_get ns 0) c.deref.ensures.value) ∙ sym c.first.ensures.value ∙ ap option_copied c.in-Some.is in
    root_first numbers c.in-Some.number.now (slice_get_within numbers 0 c.in-Some.number.now at) (get_or_from_slice_get numbers 0 c.in-Some.number.now 0 at) c.args.self.now.rising
