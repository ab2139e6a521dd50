-- Names along axes among others.
use Rattle.std.specs.Prelude.{Bool, true, false, List}
use Rattle.std.specs.List.{list_any}
use Rattle.std.specs.Ordering.{eq_by_cmp}
use Rattle.doc_tree.specs.declared.axes.Axis.{Axis}
use Rattle.doc_tree.specs.declared.axes.Axis.TheVariants.{Ancestor, AncestorOrSelf, Attribute, Child, Descendant, DescendantOrSelf, Following, FollowingSibling, Parent, Preceding, PrecedingSibling, SelfNode}
use Rattle.xp_outcome.specs.declared.names_along.NamesAlong.{NamesAlong}
use Rattle.xp_outcome.specs.Recorded.{names_cmp}

-- whether the names along an axis from a node are among some
abbrev pub is_named : List NamesAlong → NamesAlong → Bool
is_named names a = list_any (eq_by_cmp names_cmp a) names

-- whether the nodes from which a node stands on an axis are neither its parent, nor above it, nor beside it
abbrev pub is_far : Axis → Bool
is_far Attribute = false
is_far Child = false
is_far Descendant = false
is_far DescendantOrSelf = false
is_far FollowingSibling = false
is_far PrecedingSibling = false
is_far Ancestor = true
is_far AncestorOrSelf = true
is_far Following = true
is_far Parent = true
is_far Preceding = true
is_far SelfNode = true
