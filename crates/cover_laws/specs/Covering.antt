-- Cells that cover others, names along axes, and what is held of what was read: what each touches and what edits leave of them.
use Rattle.std.specs.Prelude.{◌≡◌, ℕ, Bool, true, false, not, ◌&&◌, ◌||◌, ◌⊎◌, List, [], if◌then◌else◌}
use Rattle.std.specs.FinSet.{contains, from_list, items, retain, union}
use Rattle.std.specs.List.{flat_map, list_any}
use Rattle.doc_tree.specs.cell.Cell.{Cell}
use Rattle.doc_tree.specs.cell.Cell.TheVariants.{Kids, Shape, Value, Text}
use Rattle.doc_tree.specs.declared.axes.Axis.{Axis}
use Rattle.doc_tree.specs.declared.axes.Axis.TheVariants.{Ancestor, AncestorOrSelf, Parent, SelfNode}
use Rattle.doc_tree.specs.Kinds.{is_text}
use Rattle.doc_tree.specs.Laws.{WellFormed}
use Rattle.doc_tree.specs.Lists.{mem}
use Rattle.doc_tree.specs.Table.{Table, is_live, kind_of}
use Rattle.doc_tree.specs.Walks.{above, ancestors}
use Rattle.doc_edit_laws.specs.Along.{Edit, Edits}
use Rattle.xp_outcome.specs.Cells.{cells_of}
use Rattle.xp_outcome.specs.Evaluation.{Read, names_along}
use Rattle.xp_outcome.specs.Recorded.{CellSet, NamesSet, Recorded, node_of, note_all, nothing_read}
use Rattle.xp_outcome.specs.declared.names_along.NamesAlong.{NamesAlong}

-- a cell covers another, of a node below its own: the list of what is below a node says the lists of kids there, and the lists
-- of what is below each of them; the string-value of a node says those there, and the texts
abbrev pub covers : Table → Cell → Cell → Bool
covers T (Shape n) (Kids m) = mem n (above T m)
covers T (Shape n) (Shape m) = mem n (above T m)
covers T (Text n) (Text m) = mem n (above T m)
covers T (Text n) (Value m) = is_text (kind_of T m) && mem n (ancestors T m)
covers T _ _ = false

-- of the cells that were read some are held, and each that is not is covered by one that is
pub record Alike (T : Table) (held reads : CellSet) : Type 0 where
  pub part : (c : Cell) → contains held c ≡ true → contains reads c ≡ true
  pub covered : (c : Cell) → contains reads c ≡ true → (d : Cell) × (contains held d ≡ true) × ((d ≡ c) ⊎ (covers T d c ≡ true))

-- whether a cell of a set was touched
abbrev pub has_touched : (Cell → Bool) → CellSet → Bool
has_touched touched cells = list_any touched (items cells)

-- the cells of a set are those of live nodes
abbrev pub AreOfLive : Table → CellSet → Type 0
AreOfLive T cells = (c : Cell) → contains cells c ≡ true → is_live T (node_of c) ≡ true

-- an axis that stays or leads upward: its nodes are few, and the same as long as the node lives from which it leads
abbrev pub is_upward : Axis → Bool
is_upward SelfNode = true
is_upward Parent = true
is_upward Ancestor = true
is_upward AncestorOrSelf = true
is_upward axis = false

-- the cells that the names along an axis from a node are
abbrev pub names_at : Table → NamesAlong → List Cell
names_at T a = cells_of T (names_along a.axis a.node)

-- the names along upward axes, one by one
abbrev pub upward_cells : Table → NamesSet → List Cell
upward_cells T names = flat_map (λ a. if is_upward a.axis then names_at T a else []) (items names)

-- the cells that were read, with the names along upward axes one by one
abbrev pub spelled_cells : Table → Recorded → CellSet
spelled_cells T reads = union reads.cells (from_list (upward_cells T reads.names))

-- the names along the other axes
abbrev pub other_names : NamesSet → NamesSet
other_names names = retain names (λ a. not (is_upward a.axis))

-- what is held of what was read: the lets; the cells, with the names along upward axes one by one, of which one that another covers may
-- be left out; and the names along the other axes
pub record HeldAlike (T : Table) (held reads : Recorded) : Type 0 where
  pub lets : held.lets ≡ reads.lets
  pub cells : Alike T held.cells (spelled_cells T reads)
  pub names : held.names ≡ other_names reads.names

-- whether a cell that is held was touched, or a name along an axis that is
abbrev pub has_touched_name : Table → (Cell → Bool) → NamesSet → Bool
has_touched_name T touched names = list_any (λ a. list_any touched (names_at T a)) (items names)

abbrev pub holds_touched : Table → (Cell → Bool) → Recorded → Bool
holds_touched T touched held = has_touched touched held.cells || has_touched_name T touched held.names

-- what was read is of live nodes: each cell, and each node from which names were read
pub record IsOfLive (T : Table) (reads : Recorded) : Type 0 where
  pub cells : AreOfLive T reads.cells
  pub names : (a : NamesAlong) → contains reads.names a ≡ true → is_live T a.node ≡ true

-- an edit that touches a cell touches what covers it
abbrev pub CoveringIsTouched : Type 0
CoveringIsTouched =
    (T U : Table) (touched : Cell → Bool) (d c : Cell) → WellFormed T → Edit T U touched → covers T d c ≡ true → touched c ≡ true →
    touched d ≡ true

-- an edit touches some cell of two sets that are alike, or none of either
abbrev pub AlikeAreTouchedAlike : Type 0
AlikeAreTouchedAlike =
    (T U : Table) (touched : Cell → Bool) (held reads : CellSet) → WellFormed T → Edit T U touched → Alike T held reads →
    has_touched touched held ≡ has_touched touched reads

-- and so do edits one after another, where the nodes of the cells live before
abbrev pub EditsTouchAlike : Type 0
EditsTouchAlike =
    (T U : Table) (touched : Cell → Bool) (held reads : CellSet) → WellFormed T → Edits T U touched → AreOfLive T reads → Alike T held reads →
    has_touched touched held ≡ has_touched touched reads

-- sets are alike after edits too, where the nodes of their cells live before and after
abbrev pub AlikeStay : Type 0
AlikeStay =
    (T U : Table) (touched : Cell → Bool) (held reads : CellSet) → WellFormed T → Edits T U touched → AreOfLive T reads → AreOfLive U reads →
    Alike T held reads → Alike U held reads

-- a set is alike to itself
abbrev pub EqualAreAlike : Type 0
EqualAreAlike = (T : Table) (held reads : CellSet) → held ≡ reads → Alike T held reads

-- what is alike to a set that is alike to another is alike to that one
abbrev pub AlikeComposes : Type 0
AlikeComposes = (T : Table) (held between reads : CellSet) → WellFormed T → Alike T held between → Alike T between reads → Alike T held reads

-- cells that one of those left covers may be dropped
abbrev pub CoveredMayGo : Type 0
CoveredMayGo =
    (T : Table) (held reads : CellSet) (stays : Cell → Bool) → WellFormed T → Alike T held reads →
    ((c : Cell) → contains held c ≡ true → stays c ≡ false → (d : Cell) × (contains held d ≡ true) × (stays d ≡ true) × (covers T d c ≡ true)) →
    Alike T (retain held stays) reads

-- an edit touches some name along an axis in the tree before it and in the tree after it, or none in either: only where a node is renamed
-- is a name touched, and that leaves all axes as they are
abbrev pub NamesTouchedAlike : Type 0
NamesTouchedAlike =
    (T U : Table) (touched : Cell → Bool) (axis : Axis) (n : ℕ) → WellFormed T → Edit T U touched →
    list_any touched (cells_of T (names_along axis n)) ≡ list_any touched (cells_of U (names_along axis n))

-- so whether an edit touched what is held is told by the tree before it and by the tree after it
abbrev pub TouchingIsTold : Type 0
TouchingIsTold =
    (T U : Table) (touched : Cell → Bool) (held : Recorded) → WellFormed T → Edit T U touched →
    holds_touched T touched held ≡ holds_touched U touched held

-- what was read is touched where a cell of a read is
abbrev pub ReadsAreTouched : Type 0
ReadsAreTouched =
    (T : Table) (touched : Cell → Bool) (reads : List Read) →
    holds_touched T touched (note_all nothing_read reads) ≡ list_any (λ r. list_any touched (cells_of T r)) reads

-- an edit touches what is held and what was read, or neither
abbrev pub HeldIsTouchedAlike : Type 0
HeldIsTouchedAlike =
    (T U : Table) (touched : Cell → Bool) (held reads : Recorded) → WellFormed T → Edit T U touched → HeldAlike T held reads →
    holds_touched T touched held ≡ holds_touched T touched reads

-- and so do edits one after another, where what was read is of live nodes before
abbrev pub EditsTouchHeldAlike : Type 0
EditsTouchHeldAlike =
    (T U : Table) (touched : Cell → Bool) (held reads : Recorded) → WellFormed T → Edits T U touched → IsOfLive T reads → HeldAlike T held reads →
    holds_touched T touched held ≡ holds_touched T touched reads

-- the names along upward axes stay, where the nodes from which they lead live before edits and after
abbrev pub UpwardCellsStay : Type 0
UpwardCellsStay =
    (T U : Table) (touched : Cell → Bool) (names : NamesSet) → WellFormed T → Edits T U touched →
    ((a : NamesAlong) → contains names a ≡ true → is_live T a.node ≡ true) → ((a : NamesAlong) → contains names a ≡ true → is_live U a.node ≡ true) →
    upward_cells T names ≡ upward_cells U names

-- what is held is so after edits too, where what was read is of live nodes before and after
abbrev pub HeldStaysAlike : Type 0
HeldStaysAlike =
    (T U : Table) (touched : Cell → Bool) (held reads : Recorded) → WellFormed T → Edits T U touched → IsOfLive T reads → IsOfLive U reads →
    HeldAlike T held reads → HeldAlike U held reads

-- all that was read may be held as it was read, where no names along an upward axis were
abbrev pub EqualIsHeldAlike : Type 0
EqualIsHeldAlike =
    (T : Table) (held reads : Recorded) → held ≡ reads → list_any (λ a. is_upward a.axis) (items reads.names) ≡ false → HeldAlike T held reads
