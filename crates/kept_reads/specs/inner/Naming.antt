-- The names along axes on which an element or an attribute stands.
use Rattle.std.specs.Prelude.{◌≡◌, ℕ, ◌<◌, ◌⊎◌, Bool, true, false, List, Some, length}
use Rattle.doc_tree.specs.declared.axes.Axis.{Axis}
use Rattle.doc_tree.specs.declared.axes.Axis.TheVariants.{Attribute, Child, Descendant, DescendantOrSelf, FollowingSibling, PrecedingSibling}
use Rattle.doc_tree.specs.Lists.{mem}
use Rattle.doc_tree.specs.Table.{Table, kids_of, kind_of, parent_of}
use Rattle.doc_axes.specs.Axes.{is_attribute_kind, on_axis}
use Rattle.xp_outcome.specs.Evaluation.{Read, names_along}
use Rattle.read_index.specs.Names.{is_far}
use Rattle.kept_reads.specs.inner.Dropping.{IsAbove}

-- the names along an axis from a node, on which another stands
abbrev pub IsAlongFrom : Table → ℕ → Axis → ℕ → Read → Type 0
IsAlongFrom T m axis n r = (on_axis T axis n m ≡ true) × (r ≡ names_along axis n)

-- from some node
abbrev pub IsAlong : Table → ℕ → Axis → Read → Type 0
IsAlong T m axis r = (n : ℕ) × IsAlongFrom T m axis n r

-- whether an axis leads to siblings
abbrev pub is_sibling_axis : Axis → Bool
is_sibling_axis FollowingSibling = true
is_sibling_axis PrecedingSibling = true
is_sibling_axis axis = false

-- the names along some of the axes from a node
abbrev pub IsAlongSome : Table → ℕ → (Axis → Bool) → ℕ → Read → Type 0
IsAlongSome T m some n r = (axis : Axis) × (some axis ≡ true) × IsAlongFrom T m axis n r

-- from one of some nodes
abbrev pub IsAlongAny : Table → ℕ → (Axis → Bool) → List ℕ → Read → Type 0
IsAlongAny T m some ns r = (n : ℕ) × (mem n ns ≡ true) × IsAlongSome T m some n r

-- from a node with a number below one
abbrev pub IsAlongBelow : Table → ℕ → (Axis → Bool) → ℕ → Read → Type 0
IsAlongBelow T m some count r = (n : ℕ) × (n < count) × IsAlongSome T m some n r

-- the names of what stands below a node, with its own name or without
abbrev pub IsBelowNames : ℕ → Read → Type 0
IsBelowNames n r = (r ≡ names_along Descendant n) ⊎ (r ≡ names_along DescendantOrSelf n)

-- the names of what stands below a node's ancestors
abbrev pub IsBelowAbove : Table → ℕ → Read → Type 0
IsBelowAbove T n r = IsAbove T n IsBelowNames r

-- the names of a node's parent's kids, and of the siblings before or behind one of these kids on which the node stands
abbrev pub IsBesideNames : Table → ℕ → Read → Type 0
IsBesideNames T m r =
    (p : ℕ) × (parent_of T m ≡ Some p) × ((r ≡ names_along Child p) ⊎ IsAlongAny T m is_sibling_axis (kids_of T p) r)

-- the names along axes on which an element stands
abbrev pub IsNamedFrom : Table → ℕ → Read → Type 0
IsNamedFrom T m r =
    (((r ≡ names_along DescendantOrSelf m) ⊎ IsBelowAbove T m r) ⊎ IsBesideNames T m r) ⊎ IsAlongBelow T m is_far (length T) r

-- the names of the attributes of a node's parent
abbrev pub IsParentsNames : Table → ℕ → Read → Type 0
IsParentsNames T m r = (p : ℕ) × (parent_of T m ≡ Some p) × (r ≡ names_along Attribute p)

-- where the node is one of these
abbrev pub IsOwnNames : Table → ℕ → Read → Type 0
IsOwnNames T m r = (is_attribute_kind (kind_of T m) ≡ true) × IsParentsNames T m r
