-- Nodes without the attributes among them.
use Rattle.std.specs.Prelude.{◌≡◌, ℕ, true, false, not, List, filter}
use Rattle.std.specs.List.{flat_map}
use Rattle.doc_tree.specs.Lists.{mem}
use Rattle.doc_tree.specs.Table.{Table}
use Rattle.doc_tree.specs.Walks.{below}
use Rattle.doc_axes.specs.Axes.{is_attribute}

abbrev pub plain : Table → List ℕ → List ℕ
plain T nodes = filter (λ m. not (is_attribute T m)) nodes

-- all below some nodes but attributes
abbrev pub plain_below : Table → List ℕ → List ℕ
plain_below T nodes = plain T (flat_map (below T) nodes)

-- none of the nodes is an attribute
abbrev pub NoAttributes : Table → List ℕ → Type 0
NoAttributes T nodes = (m : ℕ) → mem m nodes ≡ true → is_attribute T m ≡ false
