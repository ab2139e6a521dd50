-- Those so far were counted.
use Rattle.std.proofs.Common.{◌≡◌, take}
use Rattle.std.specs.Prelude.{count_by}
use Rattle.doc_tree.specs.Kinds.{is_kind}
use Rattle.doc_tree.specs.Table.{kind_of}
use Rattle.undo_entries.proofs.places.count_of_kind.Given as goal

abbrev pub invariant-loop-k : goal.invariant-loop-k
invariant-loop-k l = l.count ≡ count_by (λ k. is_kind l.kind (kind_of l.tree.nodes k)) (take l.k-index l.nodes)
