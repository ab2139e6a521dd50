-- Axes (XPath 1.0, section 2.2): which nodes stand on an axis from a node, by ways up and places in document order.
use Rattle.std.specs.Prelude.{◌≡◌, ℕ, ◌==◌, Bool, true, false, not, ◌&&◌, ◌||◌, List, [], ◌∷◌, ◌++◌, Option, None, Some, filter, count_by, if◌then◌else◌}
use Rattle.doc_tree.specs.kind.Kind.{Kind}
use Rattle.doc_tree.specs.kind.Kind.TheVariants as kinds
use Rattle.doc_tree.specs.Kinds.{is_kind}
use Rattle.doc_tree.specs.declared.axes.Axis.{Axis}
use Rattle.doc_tree.specs.declared.axes.Axis.TheVariants.{Ancestor, AncestorOrSelf, Attribute, Child, Descendant, DescendantOrSelf, Following, FollowingSibling, Parent, Preceding, PrecedingSibling, SelfNode}
use Rattle.doc_tree.specs.Lists.{mem}
use Rattle.doc_tree.specs.Table.{Table, attrs_of, is_live, kids_above, kids_of, kind_of, parent_of}
use Rattle.doc_tree.specs.Walks.{order, ancestors}
use Rattle.doc_tree.specs.Order.{after}

-- whether the kind is an attribute's
abbrev pub is_attribute_kind : Option Kind → Bool
is_attribute_kind kind = is_kind kinds.Attribute kind

abbrev pub is_attribute : Table → ℕ → Bool
is_attribute T m = is_attribute_kind (kind_of T m)

-- whether m stands after n in document order
abbrev pub is_after : Table → ℕ → ℕ → Bool
is_after T n m = mem m (after n (order T))

abbrev pub is_ancestor : Table → ℕ → ℕ → Bool
is_ancestor T n m = mem m (ancestors T n)

abbrev pub is_descendant : Table → ℕ → ℕ → Bool
is_descendant T n m = is_ancestor T m n && not (is_attribute T m)

-- the nodes after a node but its descendants, and those before it but its ancestors; no attributes
abbrev pub is_following : Table → ℕ → ℕ → Bool
is_following T n m = is_after T n m && not (is_ancestor T m n) && not (is_attribute T m)

abbrev pub is_preceding : Table → ℕ → ℕ → Bool
is_preceding T n m = is_after T m n && not (is_ancestor T n m) && not (is_attribute T m)

abbrev pub is_one : Option ℕ → ℕ → Bool
is_one None m = false
is_one (Some p) m = m == p

abbrev pub is_parent : Table → ℕ → ℕ → Bool
is_parent T n m = is_one (parent_of T n) m

-- the kids of a node's parent; none for an attribute, which has no siblings, and for the root
abbrev pub kids_beside : Table → ℕ → List ℕ
kids_beside T n = if is_attribute T n then [] else kids_above T (parent_of T n)

abbrev pub is_sibling : Table → ℕ → ℕ → Bool
is_sibling T n m = mem m (kids_beside T n)

abbrev pub on_axis : Table → Axis → ℕ → ℕ → Bool
on_axis T Ancestor n m = is_ancestor T n m
on_axis T AncestorOrSelf n m = is_ancestor T n m || m == n
on_axis T Attribute n m = mem m (attrs_of T n)
on_axis T Child n m = mem m (kids_of T n)
on_axis T Descendant n m = is_descendant T n m
on_axis T DescendantOrSelf n m = is_descendant T n m || m == n
on_axis T Following n m = is_following T n m
on_axis T FollowingSibling n m = is_sibling T n m && is_after T n m
on_axis T Parent n m = is_parent T n m
on_axis T Preceding n m = is_preceding T n m
on_axis T PrecedingSibling n m = is_sibling T n m && is_after T m n
on_axis T SelfNode n m = m == n

-- whether the axis runs backwards: its nodes stand before the node, or are the node (section 2.4)
abbrev pub is_reverse : Axis → Bool
is_reverse Ancestor = true
is_reverse AncestorOrSelf = true
is_reverse Preceding = true
is_reverse PrecedingSibling = true
is_reverse axis = false

-- a list from its end
abbrev pub backwards : List ℕ → List ℕ
backwards [] = []
backwards (n ∷ ns) = backwards ns ++ n ∷ []

-- the nodes on an axis in document order
abbrev pub axis_order : Table → Axis → ℕ → List ℕ
axis_order T axis n = filter (on_axis T axis n) (order T)

-- the nodes on an axis in the axis's own order
abbrev pub axis_nodes : Table → Axis → ℕ → List ℕ
axis_nodes T axis n = if is_reverse axis then backwards (axis_order T axis n) else axis_order T axis n

-- from any node, each node that is no attribute stands on just one of these five axes
abbrev pub AxesPartition : Table → Type 0
AxesPartition T =
    (n m : ℕ) → is_live T n ≡ true → is_live T m ≡ true → is_attribute T m ≡ false →
    count_by (λ axis. on_axis T axis n m) (Ancestor ∷ Descendant ∷ Following ∷ Preceding ∷ SelfNode ∷ []) ≡ 1
