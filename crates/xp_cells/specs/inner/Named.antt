-- The nodes whose names an item stands for.
use Rattle.std.specs.Prelude.{ℕ, List, filter}
use Rattle.doc_tree.specs.Table.{Table, kind_of}
use Rattle.doc_axes.specs.Axes.{axis_nodes}
use Rattle.doc_axes.specs.NodeTests.{is_principal}
use Rattle.xp_outcome.specs.declared.names_along.NamesAlong.{NamesAlong}

-- the nodes on an axis that are of its principal kind
abbrev pub named_on : Table → NamesAlong → List ℕ
named_on T along = filter (λ n. is_principal along.axis (kind_of T n)) (axis_nodes T along.axis along.node)
