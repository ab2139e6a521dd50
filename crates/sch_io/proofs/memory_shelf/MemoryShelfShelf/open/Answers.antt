use Rattle.std.proofs.Common.{◌∙◌, refl}
use Rattle.std.proofs.lemmas.Cmp.{nat_list_cmp_total}
use Rattle.std.specs.FinMap.{get-from_entries}
use Rattle.sch_io.proofs.memory_shelf.MemoryShelfShelf.open.Goals as goal

pub returns-in-Some-clause-opened : goal.returns-in-Some-clause-opened
returns-in-Some-clause-opened c =
    let found = rw c.as_slice.ensures.value at c.in-Some.ensures in
    (_, get-from_entries nat_list_cmp_total _ _ ∙ found, refl)

pub returns-in-None-clause-opened : goal.returns-in-None-clause-opened
returns-in-None-clause-opened c =
    let none = rw c.as_slice.ensures.value at c.in-None.ensures in
    (refl, get-from_entries nat_list_cmp_total _ _ ∙ none)
