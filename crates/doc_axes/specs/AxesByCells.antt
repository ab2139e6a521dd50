-- What an axis holds by the part of the tree that shows it: kids, attributes, descendants and the way up (XPath 1.0,
-- section 2.2).
use Rattle.std.specs.Prelude.{◌≡◌, ℕ, true, [], ◌∷◌, ◌++◌, None, Some}
use Rattle.doc_tree.specs.declared.axes.Axis.TheVariants.{Ancestor, AncestorOrSelf, Attribute, Child, Descendant, DescendantOrSelf, Following, FollowingSibling, Parent, Preceding, PrecedingSibling, SelfNode}
use Rattle.doc_tree.specs.Table.{Table, parent_of, kids_of, attrs_of, is_live}
use Rattle.doc_tree.specs.Walks.{ancestors, above}
use Rattle.doc_axes.specs.Axes.{axis_order, axis_nodes, kids_beside}
use Rattle.doc_axes.specs.Plain.{plain_below, NoAttributes}
use Rattle.doc_axes.specs.Siblings.{kids_behind, kids_before}

pub record AxesByCells (T : Table) : Type 0 where
  pub child : (n : ℕ) → is_live T n ≡ true → axis_nodes T Child n ≡ kids_of T n
  pub attribute : (n : ℕ) → is_live T n ≡ true → axis_nodes T Attribute n ≡ attrs_of T n
  pub descendant : (n : ℕ) → is_live T n ≡ true → axis_nodes T Descendant n ≡ plain_below T (kids_of T n)
  pub descendant_or_self : (n : ℕ) → is_live T n ≡ true → axis_nodes T DescendantOrSelf n ≡ n ∷ plain_below T (kids_of T n)
  pub plain_kids : (n : ℕ) → NoAttributes T (kids_of T n)
  -- the kids of the parent, after the node or before it
  pub following_sibling : (n : ℕ) → axis_nodes T FollowingSibling n ≡ kids_behind n (kids_beside T n)
  pub preceding_sibling : (n : ℕ) → axis_order T PrecedingSibling n ≡ kids_before n (kids_beside T n)
  -- the way up
  pub parent : (n p : ℕ) → parent_of T n ≡ Some p → axis_nodes T Parent n ≡ p ∷ []
  pub no_parent : (n : ℕ) → parent_of T n ≡ None → axis_nodes T Parent n ≡ []
  pub ancestor : (n : ℕ) → is_live T n ≡ true → axis_nodes T Ancestor n ≡ ancestors T n
  pub ancestor_or_self : (n : ℕ) → is_live T n ≡ true → axis_nodes T AncestorOrSelf n ≡ above T n
  pub self : (n : ℕ) → is_live T n ≡ true → axis_nodes T SelfNode n ≡ n ∷ []
  -- what follows and precedes a node, by what follows and precedes its parent
  pub following : (n p : ℕ) → parent_of T n ≡ Some p →
      axis_order T Following n ≡ plain_below T (kids_behind n (kids_of T p)) ++ axis_order T Following p
  pub preceding : (n p : ℕ) → parent_of T n ≡ Some p →
      axis_order T Preceding n ≡ axis_order T Preceding p ++ plain_below T (kids_before n (kids_of T p))
  pub none_following : (n : ℕ) → is_live T n ≡ true → parent_of T n ≡ None → axis_order T Following n ≡ []
  pub none_preceding : (n : ℕ) → is_live T n ≡ true → parent_of T n ≡ None → axis_order T Preceding n ≡ []
