use Rattle.std.proofs.Common.{◌≡◌, take, map, Ok}
use Rattle.doc_tree.specs.Walks.{string_value_of}
use Rattle.xp_values.specs.Comparisons.{all_numbers}
use Rattle.xp_values.proofs.comparisons.numbers_of_nodes.Given as goal

abbrev pub invariant-loop-n : goal.invariant-loop-n
invariant-loop-n l = all_numbers (map (string_value_of l.tree.nodes) (take l.n-index l.nodes)) ≡ Ok l.numbers
