-- Names along axes, filed in two indexes of cells: in each an axis has a kind of cell for itself.
use Rattle.std.specs.Prelude.{◌≡◌, ◌≢◌, ℕ, ◌==◌, Bool, true, false, ◌&&◌, ◌||◌, List}
use Rattle.doc_tree.specs.cell.Cell.{Cell}
use Rattle.doc_tree.specs.cell.Cell.TheVariants.{Kids, Shape, Attrs, Value, Text, Name}
use Rattle.doc_tree.specs.declared.axes.Axis.{Axis}
use Rattle.doc_tree.specs.declared.axes.Axis.TheVariants.{Ancestor, AncestorOrSelf, Attribute, Child, Descendant, DescendantOrSelf, Following, FollowingSibling, Parent, Preceding, PrecedingSibling, SelfNode}
use Rattle.xp_outcome.specs.declared.names_along.NamesAlong.{NamesAlong}
use Rattle.cell_index.specs.Index.{has}
use Rattle.read_index.specs.declared.read_index.ReadIndex.{ReadIndex}
use Rattle.read_index.specs.Names.{is_far, is_named}

-- the cell under which the names along an axis from a node are filed
abbrev pub filed : Axis → ℕ → Cell
filed Child n = Kids n
filed Parent n = Kids n
filed Descendant n = Shape n
filed Ancestor n = Shape n
filed Attribute n = Attrs n
filed SelfNode n = Attrs n
filed DescendantOrSelf n = Text n
filed AncestorOrSelf n = Text n
filed FollowingSibling n = Value n
filed Following n = Value n
filed PrecedingSibling n = Name n
filed Preceding n = Name n

-- what is filed under a cell where the axes aren't far
abbrev pub near_names : Cell → NamesAlong
near_names (Kids n) = record { axis = Child; node = n }
near_names (Shape n) = record { axis = Descendant; node = n }
near_names (Attrs n) = record { axis = Attribute; node = n }
near_names (Text n) = record { axis = DescendantOrSelf; node = n }
near_names (Value n) = record { axis = FollowingSibling; node = n }
near_names (Name n) = record { axis = PrecedingSibling; node = n }

-- and where they are
abbrev pub far_names : Cell → NamesAlong
far_names (Kids n) = record { axis = Parent; node = n }
far_names (Shape n) = record { axis = Ancestor; node = n }
far_names (Attrs n) = record { axis = SelfNode; node = n }
far_names (Text n) = record { axis = AncestorOrSelf; node = n }
far_names (Value n) = record { axis = Following; node = n }
far_names (Name n) = record { axis = Preceding; node = n }

-- the index of far axes, or that of the others
abbrev pub filed_part : ReadIndex → Bool → List (List Cell)
filed_part index true = index.far
filed_part index false = index.near

-- in the index of far axes, or in that of the others, a unit has some names too
abbrev pub AddsNames : Bool → ℕ → List NamesAlong → List (List Cell) → List (List Cell) → Type 0
AddsNames far unit names old new =
    (a : NamesAlong) → is_far a.axis ≡ far → (u : ℕ) →
    has new u (filed a.axis a.node) ≡ (has old u (filed a.axis a.node) || ((u == unit) && is_named names a))

-- in an index each unit but one has what it had
abbrev pub StaysElsewhere : ℕ → List (List Cell) → List (List Cell) → Type 0
StaysElsewhere unit old new = (u : ℕ) (c : Cell) → u ≢ unit → has new u c ≡ has old u c

-- each unit but one has read what it had
pub record SameElsewhere (unit : ℕ) (old new : ReadIndex) : Type 0 where
  pub cells : StaysElsewhere unit old.cells new.cells
  pub named : StaysElsewhere unit old.named new.named
  pub near : StaysElsewhere unit old.near new.near
  pub far : StaysElsewhere unit old.far new.far
