-- Sorting keeps the numbers.
use Rattle.std.proofs.Common.{◌∙◌, ◌==◌, sym}
use Rattle.std.proofs.lemmas.List.Sorted.{IsNonDecreasingBy-from_sort, list_any-IsPermutation}
use Rattle.cell_covers.proofs.SetLemmas.{mem_any}
use Rattle.cell_covers.proofs.node_set.NodeSet.of.Goals as goal

pub invariant_of-result : goal.invariant_of-result
invariant_of-result c = record { rising = IsNonDecreasingBy-from_sort (λ x. x) c.sort_unstable.new.self.items c.sort_unstable.ensures.sorted }

pub returns : goal.returns
returns c n =
    mem_any n c.sort_unstable.new.self.items
    ∙ sym (list_any-IsPermutation (λ m. n == m) c.args.numbers.items c.sort_unstable.new.self.items c.sort_unstable.ensures.permutation)
    ∙ sym (mem_any n c.args.numbers.items)
