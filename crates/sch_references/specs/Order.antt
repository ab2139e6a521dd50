-- Abstract rules in an order in which each stands after those that it extends.
use Rattle.std.specs.Prelude.{◌≡◌, ℕ, ◌≤◌, Bool, true, ◌&&◌, List, [], ◌∷◌, ◌++◌, length}
use Rattle.std.specs.List.{flat_map, list_all}
use Rattle.sch_model.specs.declared.raw.RawItem.{RawItem}
use Rattle.sch_model.specs.declared.raw.RawRule.{RawRule}
use Rattle.sch_model.specs.Items.{extended_in}
use Rattle.sch_references.specs.Extends.{is_named, items_named}

-- whether each `extends` among the items names one of the rules
abbrev pub extends_only : List RawRule → List RawItem → Bool
extends_only rules items = list_all (is_named rules) (flat_map extended_in items)

-- whether each rule extends only rules before it, where some stand in front of all
abbrev pub is_sorted : List RawRule → List RawRule → Bool
is_sorted before [] = true
is_sorted before (rule ∷ rules) = extends_only before rule.items && is_sorted (before ++ rule ∷ []) rules

-- the second rules are the first in such an order: the same by their ids
pub record IsOrderOf (rules ordered : List RawRule) : Type 0 where
  pub sorted : is_sorted [] ordered ≡ true
  pub items : (name : List ℕ) → items_named ordered name ≡ items_named rules name
  pub names : (name : List ℕ) → is_named ordered name ≡ is_named rules name
  pub no_more : length ordered ≤ length rules
