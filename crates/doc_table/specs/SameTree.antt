-- When two trees are the same (XPath 1.0, section 5): their nodes are alike one by one in document order, whatever their numbers.
use Rattle.std.specs.Prelude.{◌≡◌, ℕ, suc, ◌==◌, List, [], ◌∷◌, Option, None, Some, map, option_map, if◌then◌else◌}
use Rattle.doc_table.specs.Table.{Table, parent_of, kids_of, attrs_of, content_of}
use Rattle.doc_table.specs.Walks.{order}
use Rattle.doc_table.specs.Lines.{lines}
use Rattle.doc_table.specs.Laws.{WellFormed}

-- the position of a number in a list, counted from 0; None where it isn't there
abbrev pub position_in : ℕ → List ℕ → Option ℕ
position_in n [] = None
position_in n (m ∷ ms) = if n == m then Some 0 else option_map (λ i. suc i) (position_in n ms)

-- the position of a node in document order
abbrev pub position : Table → ℕ → Option ℕ
position T n = position_in n (order T)

-- the same of a parent, where there is one
abbrev pub position_at : Table → Option ℕ → Option ℕ
position_at T None = None
position_at T (Some n) = position T n

-- a node of one tree and a node of another are alike: in kind, name with prefix, declarations and text, and in the positions of
-- parent, kids and attributes
pub record SameNode (T U : Table) (n m : ℕ) : Type 0 where
  pub content : content_of U m ≡ content_of T n
  pub parent : position_at U (parent_of U m) ≡ position_at T (parent_of T n)
  pub kids : map (position U) (kids_of U m) ≡ map (position T) (kids_of T n)
  pub attributes : map (position U) (attrs_of U m) ≡ map (position T) (attrs_of T n)

-- two lists of nodes are equally long, and alike one by one
abbrev pub AllSame : Table → Table → List ℕ → List ℕ → Type 0
AllSame T U [] [] = Unit {0}
AllSame T U [] (m ∷ ms) = ⊥
AllSame T U (n ∷ ns) [] = ⊥
AllSame T U (n ∷ ns) (m ∷ ms) = SameNode T U n m × AllSame T U ns ms

-- two trees are the same, but for the numbers of their nodes
abbrev pub SameTree : Table → Table → Type 0
SameTree T U = AllSame T U (order T) (order U)

-- the lines tell all of a tree but the numbers of its nodes
abbrev pub SameLinesSameTree : Type 0
SameLinesSameTree = (T U : Table) → WellFormed T → WellFormed U → lines T ≡ lines U → SameTree T U

-- and the same tree has the same lines
abbrev pub SameTreeSameLines : Type 0
SameTreeSameLines = (T U : Table) → WellFormed T → WellFormed U → SameTree T U → lines T ≡ lines U
