-- The set of what was read.
use Rattle.std.specs.Prelude.{ℕ, Bool, nat_lt, List, [], ◌∷◌}
use Rattle.std.specs.declared.cmp.Ordering.{Ordering}
use Rattle.std.specs.Ordering.{nat_cmp, on, then_cmp}
use Rattle.std.specs.FinSet.{FinSet, empty, insert, contains}
use Rattle.std.specs.FinSet as set
use Rattle.doc_tree.specs.cell.Cell.{Cell}
use Rattle.doc_tree.specs.cell.Cell.TheVariants.{Kids, Shape, Attrs, Value, Text, Name}
use Rattle.doc_tree.specs.declared.axes.Axis.{Axis}
use Rattle.doc_tree.specs.declared.axes.Axis.TheVariants.{Ancestor, AncestorOrSelf, Attribute, Child, Descendant, DescendantOrSelf, Following, FollowingSibling, Parent, Preceding, PrecedingSibling, SelfNode}
use Rattle.xp_outcome.specs.declared.names_along.NamesAlong.{NamesAlong}
use Rattle.xp_outcome.specs.Evaluation.{Read, cell, names_along, variable}

-- the kind of a cell, as a number
abbrev pub kind_number : Cell → ℕ
kind_number (Kids _) = 0
kind_number (Shape _) = 1
kind_number (Attrs _) = 2
kind_number (Value _) = 3
kind_number (Text _) = 4
kind_number (Name _) = 5

-- the node of a cell
abbrev pub node_of : Cell → ℕ
node_of (Kids n) = n
node_of (Shape n) = n
node_of (Attrs n) = n
node_of (Value n) = n
node_of (Text n) = n
node_of (Name n) = n

-- the order of cells in a set: by kind, then by node
abbrev pub cell_cmp : Cell → Cell → Ordering
cell_cmp = then_cmp (on kind_number nat_cmp) (on node_of nat_cmp)

-- the place of an axis in the order of axes
abbrev pub axis_number : Axis → ℕ
axis_number Ancestor = 0
axis_number AncestorOrSelf = 1
axis_number Attribute = 2
axis_number Child = 3
axis_number Descendant = 4
axis_number DescendantOrSelf = 5
axis_number Following = 6
axis_number FollowingSibling = 7
axis_number Parent = 8
axis_number Preceding = 9
axis_number PrecedingSibling = 10
axis_number SelfNode = 11

-- the order of names along axes in a set: by axis, then by node
abbrev pub names_cmp : NamesAlong → NamesAlong → Ordering
names_cmp = then_cmp (on (λ a. axis_number a.axis) nat_cmp) (on (λ a. a.node) nat_cmp)

-- the sets of cells, of names along axes and of lets that were read
abbrev pub CellSet : Type 0
CellSet = FinSet cell_cmp

abbrev pub NamesSet : Type 0
NamesSet = FinSet names_cmp

abbrev pub LetSet : Type 0
LetSet = FinSet nat_cmp

-- what a recorder holds
pub record Recorded : Type 0 where
  pub cells : CellSet
  pub names : NamesSet
  pub lets : LetSet

-- nothing was read
abbrev pub nothing_read : Recorded
nothing_read = record { cells = empty; names = empty; lets = empty }

-- one read more
abbrev pub note : Recorded → Read → Recorded
note held (cell c) = record { cells = insert held.cells c; names = held.names; lets = held.lets }
note held (names_along axis n) = record { cells = held.cells; names = insert held.names (record { axis = axis; node = n }); lets = held.lets }
note held (variable slot) = record { cells = held.cells; names = held.names; lets = insert held.lets slot }

-- some reads more
abbrev pub note_all : Recorded → List Read → Recorded
note_all held [] = held
note_all held (x ∷ xs) = note_all (note held x) xs

-- all that is held by one or the other
abbrev pub joined : Recorded → Recorded → Recorded
joined held more = record { cells = set.union held.cells more.cells; names = set.union held.names more.names; lets = set.union held.lets more.lets }

-- what was read without the lets from a slot on
abbrev pub without_lets_from : ℕ → Recorded → Recorded
without_lets_from slot held = record { cells = held.cells; names = held.names; lets = set.retain held.lets (λ s. nat_lt s slot) }

-- whether a read is among those held
abbrev pub has_read : Recorded → Read → Bool
has_read held (cell c) = contains held.cells c
has_read held (names_along axis n) = contains held.names (record { axis = axis; node = n })
has_read held (variable slot) = contains held.lets slot
