-- The kids of a node before and after one of them.
use Rattle.std.specs.Prelude.{ℕ, ◌==◌, List, [], ◌∷◌, if◌then◌else◌}
use Rattle.doc_tree.specs.Lists.{mem}
use Rattle.doc_tree.specs.Order.{after}

-- the kids after one of them; all of them where the node is none
abbrev pub kids_behind : ℕ → List ℕ → List ℕ
kids_behind n kids = if mem n kids then after n kids else kids

-- what stands before a number in a list; all of it where the number isn't there
abbrev pub before : ℕ → List ℕ → List ℕ
before n [] = []
before n (m ∷ ms) = if n == m then [] else m ∷ before n ms

-- the kids before one of them; none where the node is none
abbrev pub kids_before : ℕ → List ℕ → List ℕ
kids_before n kids = if mem n kids then before n kids else []
