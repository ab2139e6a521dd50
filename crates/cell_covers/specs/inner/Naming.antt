-- Names along axes, noted as they are held: those along upward axes one by one.
use Rattle.std.specs.Prelude.{ℕ, List, [], ◌∷◌, if◌then◌else◌}
use Rattle.doc_tree.specs.cell.Cell.TheVariants.{Name}
use Rattle.doc_tree.specs.Kinds.{is_element}
use Rattle.doc_tree.specs.Table.{Table, kind_of}
use Rattle.doc_axes.specs.Axes.{axis_nodes}
use Rattle.xp_outcome.specs.Evaluation.{cell, names_along}
use Rattle.xp_outcome.specs.Recorded.{Recorded, note}
use Rattle.xp_outcome.specs.declared.names_along.NamesAlong.{NamesAlong}
use Rattle.cover_laws.specs.Covering.{is_upward}

-- the name of a node, where it is an element
abbrev pub with_name : Table → Recorded → ℕ → Recorded
with_name T held n = if is_element (kind_of T n) then note held (cell (Name n)) else held

abbrev pub with_each_name : Table → Recorded → List ℕ → Recorded
with_each_name T held [] = held
with_each_name T held (n ∷ ns) = with_each_name T (with_name T held n) ns

-- the names along an axis
abbrev pub with_along : Table → Recorded → NamesAlong → Recorded
with_along T held a =
    if is_upward a.axis then with_each_name T held (axis_nodes T a.axis a.node) else note held (names_along a.axis a.node)

abbrev pub with_names : Table → Recorded → List NamesAlong → Recorded
with_names T held [] = held
with_names T held (a ∷ rest) = with_names T (with_along T held a) rest
