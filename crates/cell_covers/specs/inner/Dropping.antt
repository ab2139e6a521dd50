-- Which cells of a set others of it cover, told by the nodes on the way up.
use Rattle.std.specs.Prelude.{◌≡◌, ℕ, Bool, true, false, ◌&&◌, not, List, [], ◌∷◌}
use Rattle.std.specs.FinSet.{contains}
use Rattle.std.specs.List.{list_any}
use Rattle.doc_tree.specs.cell.Cell.{Cell}
use Rattle.doc_tree.specs.cell.Cell.TheVariants.{Kids, Shape, Attrs, Value, Text, Name}
use Rattle.doc_tree.specs.Kinds.{is_text}
use Rattle.doc_tree.specs.Lists.{mem}
use Rattle.doc_tree.specs.Table.{Table, kind_of}
use Rattle.doc_tree.specs.Walks.{above, ancestors}
use Rattle.xp_outcome.specs.Recorded.{CellSet}

-- whether a cell can cover others
abbrev pub is_wide : Cell → Bool
is_wide (Kids _) = false
is_wide (Shape _) = true
is_wide (Attrs _) = false
is_wide (Value _) = false
is_wide (Text _) = true
is_wide (Name _) = false

-- the node of a Shape, and of no other cell
abbrev pub shape_in : Cell → List ℕ
shape_in (Kids _) = []
shape_in (Shape n) = n ∷ []
shape_in (Attrs _) = []
shape_in (Value _) = []
shape_in (Text _) = []
shape_in (Name _) = []

-- the node of a Text, and of no other cell
abbrev pub text_in : Cell → List ℕ
text_in (Kids _) = []
text_in (Shape _) = []
text_in (Attrs _) = []
text_in (Value _) = []
text_in (Text n) = n ∷ []
text_in (Name _) = []

-- whether one of some nodes is in a set
abbrev pub meets : List ℕ → List ℕ → Bool
meets nodes set = list_any (λ n. mem n set) nodes

-- whether a cell is covered by the Shape or the Text of another node, where these are those of two sets
abbrev pub is_covered : Table → List ℕ → List ℕ → Cell → Bool
is_covered T shapes texts (Kids n) = meets (above T n) shapes
is_covered T shapes texts (Shape n) = meets (ancestors T n) shapes
is_covered T shapes texts (Attrs n) = false
is_covered T shapes texts (Value n) = is_text (kind_of T n) && meets (ancestors T n) texts
is_covered T shapes texts (Text n) = meets (ancestors T n) texts
is_covered T shapes texts (Name n) = false

-- two sets hold the nodes of the Shapes and of the Texts among some cells
pub record StandsFor (cells : CellSet) (shapes texts : List ℕ) : Type 0 where
  pub shapes_are : (n : ℕ) → mem n shapes ≡ contains cells (Shape n)
  pub texts_are : (n : ℕ) → mem n texts ≡ contains cells (Text n)

-- of a set those cells are held that aren't covered
abbrev pub Leaves : (Cell → Bool) → CellSet → CellSet → Type 0
Leaves covered reads held = (c : Cell) → contains held c ≡ (contains reads c && not (covered c))
