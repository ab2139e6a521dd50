-- Places of rules among others.
use Rattle.std.specs.Prelude.{◌≡◌, ℕ, ◌<◌, false, List, Some, length, slice_get, take}
use Rattle.sch_model.specs.declared.raw.RawRule.{RawRule}
use Rattle.sch_references.specs.Extends.{is_named, items_named}

-- the first of the rules that has the id stands at the place
pub record IsPlaceOf (rules : List RawRule) (name : List ℕ) (place : ℕ) : Type 0 where
  pub within : place < length rules
  pub id : (rule : RawRule) → slice_get rules place ≡ Some rule → rule.id ≡ Some name
  pub items : (rule : RawRule) → slice_get rules place ≡ Some rule → items_named rules name ≡ rule.items
  pub first : is_named (take place rules) name ≡ false
