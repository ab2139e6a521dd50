-- Ways by `extends` among rules.
use Rattle.std.specs.Prelude.{◌≡◌, ◌⊎◌, ℕ, ◌+◌, ◌≤◌, length, take, Bool, true, false, not, ◌&&◌, ◌||◌, List, [], ◌∷◌, ◌++◌, Some}
use Rattle.std.specs.List.{flat_map, list_all}
use Rattle.std.specs.Str.{bytes_eq}
use Rattle.sch_model.specs.declared.raw.RawItem.{RawItem}
use Rattle.sch_model.specs.declared.raw.RawRule.{RawRule}
use Rattle.sch_references.specs.Cycles.{leads}
use Rattle.sch_model.specs.Items.{extended_in}
use Rattle.sch_references.specs.Extends.{extended_by, is_named, items_named}
use Rattle.sch_references.specs.References.{is_among}
use Rattle.sch_references.specs.inner.Firsts.{left}

-- the property of each
abbrev pub Each : {A : Type 0} → (A → Type 0) → List A → Type 0
Each P [] = Unit {0}
Each P (x ∷ xs) = P x × Each P xs

-- a rule whose id is one of the rules', with the items that this id stands for
pub record Own (rules : List RawRule) (rule : RawRule) : Type 0 where
  pub id : List ℕ
  pub is : rule.id ≡ Some id
  pub named : is_named rules id ≡ true
  pub items : items_named rules id ≡ rule.items

-- a name leads to another, in some number of steps
pub record Leads (rules : List RawRule) (name id : List ℕ) : Type 0 where
  pub steps : ℕ
  pub way : leads rules steps name id ≡ true

-- a rule to which a name leads
pub record Met (rules : List RawRule) (name : List ℕ) (rule : RawRule) : Type 0 where
  pub own : Own rules rule
  pub way : Leads rules name own.id

-- the rule with the name was put at the end
pub record AddsRule (rules : List RawRule) (name : List ℕ) (before after : List RawRule) : Type 0 where
  pub rule : RawRule
  pub is : rule.id ≡ Some name
  pub named : is_named rules name ≡ true
  pub items : items_named rules name ≡ rule.items
  pub fresh : is_named before name ≡ false
  pub pushed : after ≡ before ++ rule ∷ []

-- the rule with the name is among those found, if there is one
pub record Adds (rules : List RawRule) (name : List ℕ) (before after : List RawRule) : Type 0 where
  pub known : is_named rules name ≡ true → is_named after name ≡ true
  pub added : (after ≡ before) ⊎ AddsRule rules name before after

-- the same of some names, one after another
abbrev pub AddsAll : List RawRule → List (List ℕ) → List RawRule → List RawRule → Type 0
AddsAll rules [] before after = after ≡ before
AddsAll rules (name ∷ names) before after = (found : List RawRule) × (Adds rules name before found × AddsAll rules names found after)

-- whether a name is not the one sought, and is found if it is known
abbrev pub is_followed : List RawRule → List RawRule → List ℕ → List ℕ → Bool
is_followed rules found id name = not (bytes_eq name id) && (not (is_named rules name) || is_named found name)

-- the same of each name that items extend
abbrev pub follows : List RawRule → List RawRule → List ℕ → List RawItem → Bool
follows rules found id items = list_all (is_followed rules found id) (flat_map extended_in items)

-- a search for the id from the name, so far: the rules found, of which the first so many were followed
pub record Reached (rules : List RawRule) (name id : List ℕ) (next : ℕ) (found : List RawRule) : Type 0 where
  pub each : Each (Met rules name) found
  pub room : length found + left (λ _. 1) rules found ≤ length rules
  pub start : is_named rules name ≡ true → is_named found name ≡ true
  pub done : Each (λ rule. follows rules found id rule.items ≡ true) (take next found)

-- a name extends another that leads back to it
pub record Cyclic (rules : List RawRule) : Type 0 where
  pub name : List ℕ
  pub next : List ℕ
  pub named : is_named rules name ≡ true
  pub extended : is_among (extended_by rules name) next ≡ true
  pub way : Leads rules next name
