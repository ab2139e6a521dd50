-- Trees that are equal but for the numbers of their nodes, by a map of the numbers (XPath 1.0, section 5).
use Rattle.std.specs.Prelude.{◌≡◌, ℕ, ◌+◌, ◌==◌, List, [], ◌∷◌, length, map, option_map, if◌then◌else◌}
use Rattle.doc_table.specs.Table.{Table, parent_of, kids_of, attrs_of, content_of}
use Rattle.doc_table.specs.Walks.{order, ancestors, joined_text}
use Rattle.doc_table.specs.Lines.{lines_below}
use Rattle.doc_table.specs.Laws.{WellFormed}
use Rattle.doc_table.specs.SameTree.{SameTree}

-- where two lists send a number: what stands in the first goes to what stands in its place in the second, any other number so far past
-- a bound as it is great
abbrev pub moved : List ℕ → List ℕ → ℕ → ℕ → ℕ
moved [] ms past n = past + n
moved (k ∷ ks) [] past n = past + n
moved (k ∷ ks) (m ∷ ms) past n = if n == k then m else moved ks ms past n

-- each node goes to the one at the same position in document order, a number without a node past all numbers of the other tree
abbrev pub renumbered : Table → Table → ℕ → ℕ
renumbered T U n = moved (order T) (order U) (length U) n

-- a table is another with its numbers changed: different ones stay different, and what is said of a number is said of the new one.
-- It is said of all numbers, also of those without a node.
pub record Renumbers (f : ℕ → ℕ) (T U : Table) : Type 0 where
  pub apart : (a b : ℕ) → f a ≡ f b → a ≡ b
  pub in_order : order U ≡ map f (order T)
  pub content : (n : ℕ) → content_of U (f n) ≡ content_of T n
  pub parent : (n : ℕ) → parent_of U (f n) ≡ option_map f (parent_of T n)
  pub kids : (n : ℕ) → kids_of U (f n) ≡ map f (kids_of T n)
  pub attributes : (n : ℕ) → attrs_of U (f n) ≡ map f (attrs_of T n)

-- what then follows of the root, the ways up, and of what is told below a node
pub record Hangs (f : ℕ → ℕ) (T U : Table) : Type 0 where
  pub root : f 0 ≡ 0
  pub ancestors_go : (n : ℕ) → ancestors U (f n) ≡ map f (ancestors T n)
  pub text : (n : ℕ) → joined_text U (f n) ≡ joined_text T n
  pub lines : (n : ℕ) → lines_below U (f n) ≡ lines_below T n

-- trees that are the same are renumbered
abbrev pub SameTreesAreRenumbered : Type 0
SameTreesAreRenumbered = (T U : Table) → WellFormed T → WellFormed U → SameTree T U → Renumbers (renumbered T U) T U

-- and renumbered trees are the same
abbrev pub RenumberedTreesAreSame : Type 0
RenumberedTreesAreSame = (f : ℕ → ℕ) (T U : Table) → Renumbers f T U → SameTree T U

-- what hangs together stays so
abbrev pub RenumberedTreesHang : Type 0
RenumberedTreesHang = (f : ℕ → ℕ) (T U : Table) → WellFormed T → WellFormed U → Renumbers f T U → Hangs f T U
