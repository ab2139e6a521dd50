-- Orders of some of the rules, where unknown names extend nothing.
use Rattle.std.specs.Prelude.{◌≡◌, ℕ, ◌+◌, ◌≤◌, Bool, true, false, not, ◌&&◌, ◌||◌, List, [], ◌∷◌, ◌++◌, Option, None, Some, length, take}
use Rattle.std.specs.List.{flat_map, list_all}
use Rattle.sch_model.specs.declared.raw.RawItem.{RawItem}
use Rattle.sch_model.specs.declared.raw.RawRule.{RawRule}
use Rattle.sch_model.specs.Items.{extended_in}
use Rattle.sch_references.specs.Extends.{is_named}
use Rattle.sch_references.specs.inner.Firsts.{left}
use Rattle.sch_references.specs.inner.Ways.{Cyclic, Each, Own}

-- whether a name is in the order if it is known
abbrev pub is_settled : List RawRule → List RawRule → List ℕ → Bool
is_settled rules order name = not (is_named rules name) || is_named order name

abbrev pub settles : List RawRule → List RawRule → List RawItem → Bool
settles rules order items = list_all (is_settled rules order) (flat_map extended_in items)

-- whether each rule extends only rules before it, besides unknown ones
abbrev pub is_sorted_among : List RawRule → List RawRule → List RawRule → Bool
is_sorted_among rules before [] = true
is_sorted_among rules before (rule ∷ order) = settles rules before rule.items && is_sorted_among rules (before ++ rule ∷ []) order

-- an order of some of the rules
pub record Sorted (rules order : List RawRule) : Type 0 where
  pub sorted : is_sorted_among rules [] order ≡ true
  pub each : Each (Own rules) order
  pub room : length order + left (λ _. 1) rules order ≤ length rules

-- an order of all of the rules, or none where there is a cycle
abbrev pub Found : List RawRule → Option (List RawRule) → Type 0
Found rules None = Cyclic rules
Found rules (Some order) = Sorted rules order × ((name : List ℕ) → is_named rules name ≡ true → is_named order name ≡ true)

-- a place in the order with the name before it, and not the id
pub record StandsBefore (order : List RawRule) (name id : List ℕ) : Type 0 where
  pub count : ℕ
  pub there : is_named (take count order) name ≡ true
  pub later : is_named (take count order) id ≡ false
  pub known : is_named order id ≡ true
