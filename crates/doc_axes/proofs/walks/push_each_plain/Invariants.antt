use Rattle.std.proofs.Common.{◌≡◌, ◌++◌, take}
use Rattle.doc_axes.specs.Plain.{plain_below}
use Rattle.doc_axes.proofs.walks.push_each_plain.Given as goal

abbrev pub invariant-loop-n : goal.invariant-loop-n
invariant-loop-n l = l.list ≡ l.initial.list ++ plain_below l.tree.nodes (take l.n-index l.nodes)
