-- The walk over what items stand for: stretches of items that are still to be visited, the next one last.
use Rattle.std.specs.Prelude.{◌≡◌, ◌≤◌, ℕ, zero, suc, ◌+◌, Bool, true, false, List, [], ◌∷◌, ◌++◌, Some, length, slice_get, take}
use Rattle.std.specs.List.{flat_map}
use Rattle.std.specs.Option.{unwrap_or}
use Rattle.sch_model.specs.declared.raw.RawItem.{RawItem}
use Rattle.sch_model.specs.declared.raw.RawItem.TheVariants as item
use Rattle.sch_model.specs.declared.raw.RawRule.{RawRule}
use Rattle.sch_references.specs.Extends.{items_named}
use Rattle.sch_expansion.specs.Stands.{replaced, stands_for}

-- what items stand for
abbrev pub expanded : List RawRule → List RawItem → List RawItem
expanded rules items = flat_map (replaced (stands_for rules)) items

-- what stretches stand for
abbrev pub pending_items : List RawRule → List (List RawItem) → List RawItem
pending_items rules [] = []
pending_items rules (items ∷ before) = pending_items rules before ++ expanded rules items

-- an item, but no `extends`
abbrev pub own_item : RawItem → List RawItem
own_item (item.Let decl) = item.Let decl ∷ []
own_item (item.Assertion assertion) = item.Assertion assertion ∷ []
own_item (item.Extends node name) = []

-- what stands in the place of an `extends`
abbrev pub extended_items : (List ℕ → List RawItem) → RawItem → List RawItem
extended_items stands (item.Let decl) = []
extended_items stands (item.Assertion assertion) = []
extended_items stands (item.Extends node name) = stands name

-- how many visits an item takes, by those that the rule with a name takes
abbrev pub item_visits : (List ℕ → ℕ) → RawItem → ℕ
item_visits visits (item.Let decl) = 0
item_visits visits (item.Assertion assertion) = 0
item_visits visits (item.Extends node name) = visits name

-- how many visits items take: besides, each takes one itself, and the stretch that it leads to
abbrev pub all_visits : (List ℕ → ℕ) → List RawItem → ℕ
all_visits visits [] = 0
all_visits visits (its ∷ items) = suc (suc (item_visits visits its + all_visits visits items))

-- how many the rule with an id takes, so many levels deep
abbrev pub visits : List RawRule → ℕ → List ℕ → ℕ
visits rules zero name = 0
visits rules (suc levels) name = all_visits (visits rules levels) (items_named rules name)

abbrev pub visits_for : List RawRule → List ℕ → ℕ
visits_for rules name = visits rules (length rules) name

-- how many stretches take
abbrev pub pending_visits : List RawRule → List (List RawItem) → ℕ
pending_visits rules [] = 0
pending_visits rules (items ∷ before) = suc (all_visits (visits_for rules) items + pending_visits rules before)

-- items in the place of what the rule with a name stands for, which take no more visits
pub record IsInPlaceOf (rules : List RawRule) (name : List ℕ) (items : List RawItem) : Type 0 where
  pub stands : expanded rules items ≡ stands_for rules name
  pub visits : all_visits (visits_for rules) items ≤ visits_for rules name

-- items that an item leads to
pub record IsReachedBy (rules : List RawRule) (its : RawItem) (items : List RawItem) : Type 0 where
  pub stands : expanded rules items ≡ extended_items (stands_for rules) its
  pub visits : all_visits (visits_for rules) items ≤ item_visits (visits_for rules) its

-- whether there is no item
abbrev pub are_none : List RawItem → Bool
are_none [] = true
are_none (its ∷ items) = false

-- of each rule of the table whether it stands for nothing
abbrev pub Nothings : List RawRule → List Bool → Type 0
Nothings rules table = (place : ℕ) (told : Bool) (rule : RawRule) → slice_get table place ≡ Some told → slice_get rules place ≡ Some rule →
    told ≡ are_none (expanded rules rule.items)

-- the rules of which the table tells
abbrev pub told_rules : List RawRule → List Bool → List RawRule
told_rules rules table = take (length table) rules

-- what the table says of a place
abbrev pub told_at : List Bool → ℕ → Bool
told_at table place = unwrap_or (slice_get table place) false
