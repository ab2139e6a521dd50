use Rattle.std.proofs.Common.{◌≡◌, false, take}
use Rattle.std.specs.List.{list_any}
use Rattle.doc_tree.specs.Walks.{string_value_of}
use Rattle.xp_values.specs.Comparisons.{text_test}
use Rattle.xp_values.proofs.text_comparisons.some_passes.Given as goal

abbrev pub invariant-loop-n : goal.invariant-loop-n
invariant-loop-n l = list_any (λ n. text_test l.op (string_value_of l.tree.nodes n) l.text) (take l.n-index l.nodes) ≡ false
