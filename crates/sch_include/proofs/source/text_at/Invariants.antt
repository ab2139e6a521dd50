-- The bytes so far.
use Rattle.std.proofs.Common.{◌≡◌, ◌+◌, length, take, sum_by}
use Rattle.doc_tree.specs.Table.{attrs_of, value_of}
use Rattle.sch_include.proofs.source.text_at.Given as goal

abbrev pub invariant-loop-attr : goal.invariant-loop-attr
invariant-loop-attr l = l.bytes ≡ length (value_of l.fn.tree.nodes l.fn.n) + sum_by (λ m. length (value_of l.fn.tree.nodes m)) (take l.attr-index (attrs_of l.fn.tree.nodes l.fn.n))
