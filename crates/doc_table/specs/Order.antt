-- Places in document order (XPath 1.0, section 5): what stands before what, and what stands below what.
use Rattle.std.specs.Prelude.{◌≡◌, ℕ, ◌==◌, Bool, true, List, [], ◌∷◌, if◌then◌else◌}
use Rattle.doc_table.specs.Lists.{mem}
use Rattle.doc_table.specs.Table.{Table, is_live}
use Rattle.doc_table.specs.Walks.{order, below, above}

-- what stands after a number in a list; nothing where the number isn't there
abbrev pub after : ℕ → List ℕ → List ℕ
after n [] = []
after n (m ∷ ms) = if n == m then ms else after n ms

-- whether a node stands before another in document order
abbrev pub is_before : Table → ℕ → ℕ → Bool
is_before T a b = mem b (after a (order T))

-- below a node stand just the node itself and the nodes whose ancestor it is
abbrev pub Nested : Table → Type 0
Nested T = (n m : ℕ) → is_live T m ≡ true → mem m (below T n) ≡ mem n (above T m)
