-- The names of the axes: XPath 1.0, section 2.2.
use Rattle.std.specs.Prelude.{ℕ, List, [], ◌∷◌, map, codes}
use Rattle.xp_tree.specs.declared.terms.AxisName.{AxisName}
use Rattle.xp_tree.specs.declared.terms.AxisName.TheVariants as axis

abbrev pub axis_text : AxisName → List ℕ
axis_text axis.Ancestor = codes "ancestor"
axis_text axis.AncestorOrSelf = codes "ancestor-or-self"
axis_text axis.Attribute = codes "attribute"
axis_text axis.Child = codes "child"
axis_text axis.Descendant = codes "descendant"
axis_text axis.DescendantOrSelf = codes "descendant-or-self"
axis_text axis.Following = codes "following"
axis_text axis.FollowingSibling = codes "following-sibling"
axis_text axis.Namespace = codes "namespace"
axis_text axis.Parent = codes "parent"
axis_text axis.Preceding = codes "preceding"
axis_text axis.PrecedingSibling = codes "preceding-sibling"
axis_text axis.SelfNode = codes "self"

-- each name with its axis
abbrev pub axis_names : List (List ℕ × AxisName)
axis_names = map (λ a. (axis_text a, a)) (axis.Ancestor ∷ axis.AncestorOrSelf ∷ axis.Attribute ∷ axis.Child ∷ axis.Descendant ∷ axis.DescendantOrSelf ∷ axis.Following ∷ axis.FollowingSibling ∷ axis.Namespace ∷ axis.Parent ∷ axis.Preceding ∷ axis.PrecedingSibling ∷ axis.SelfNode ∷ [])
