-- Node-sets as the lists of their nodes in document order, each once.
use Rattle.std.specs.Prelude.{◌≡◌, ℕ, ◌||◌, List, filter}
use Rattle.doc_tree.specs.Lists.{mem}
use Rattle.doc_tree.specs.Table.{Table}
use Rattle.doc_tree.specs.Walks.{order}

-- the live ones of some nodes, in document order and each once
abbrev pub in_order : Table → List ℕ → List ℕ
in_order T nodes = filter (λ m. mem m nodes) (order T)

-- the nodes are a node-set: live, in document order and each once
abbrev pub IsNodeSet : Table → List ℕ → Type 0
IsNodeSet T nodes = nodes ≡ in_order T nodes

abbrev pub union : Table → List ℕ → List ℕ → List ℕ
union T a b = filter (λ m. mem m a || mem m b) (order T)
