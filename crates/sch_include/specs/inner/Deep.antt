-- Depth in the whole tree.
use Rattle.std.specs.Prelude.{ℕ, ◌+◌, Bool, ◌&&◌, nat_lt, length}
use Rattle.doc_tree.specs.Kinds.{is_element}
use Rattle.doc_tree.specs.limits.TheConstants.{MAX_DEPTH}
use Rattle.doc_tree.specs.Table.{Table, kind_of}
use Rattle.doc_tree.specs.Walks.{ancestors}

-- whether the node is an element that stands too deep where so many elements stand above the document element
abbrev pub is_deep_at : Table → ℕ → ℕ → Bool
is_deep_at T above n = is_element (kind_of T n) && nat_lt MAX_DEPTH (above + length (ancestors T n))
