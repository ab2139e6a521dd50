-- The search for an order of rules in which each stands after those that it extends.
use Rattle.std.specs.Prelude.{◌≡◌, ◌⊎◌, ℕ, ◌+◌, ◌<◌, Bool, true, false, ◌||◌, List, [], ◌∷◌, ◌++◌, Option, Some, length}
use Rattle.std.specs.List.{list_any}
use Rattle.std.specs.Str.{bytes_eq}
use Rattle.sch_model.specs.declared.raw.RawItem.{RawItem}
use Rattle.sch_model.specs.declared.raw.RawRule.{RawRule}
use Rattle.sch_model.specs.Items.{extended_in}
use Rattle.sch_references.specs.Extends.{extended_by, is_named, items_named}
use Rattle.sch_references.specs.References.{is_among}
use Rattle.sch_references.specs.declared.search.Frame.{Frame}
use Rattle.sch_references.specs.declared.search.Search.{Search}
use Rattle.sch_references.specs.declared.search.Step.{Step}
use Rattle.sch_references.specs.declared.search.Step.TheVariants as step
use Rattle.sch_references.specs.inner.Firsts.{left}
use Rattle.sch_references.specs.inner.Order.{Found, Sorted, settles}
use Rattle.sch_references.specs.inner.Ways.{Cyclic, Each}

-- a rule that is being followed, with the items that are left
pub record Followed (rules order : List RawRule) (frame : Frame) : Type 0 where
  pub id : frame.rule.now.id ≡ Some frame.name.now
  pub named : is_named rules frame.name.now ≡ true
  pub items : items_named rules frame.name.now ≡ frame.rule.now.items
  pub passed : List RawItem
  pub whole : frame.rule.now.items ≡ passed ++ frame.rest.now
  pub settled : settles rules order passed ≡ true

-- each rule extends the next one, and the last one the name
abbrev pub next_name : List Frame → List ℕ → List ℕ
next_name [] name = name
next_name (frame ∷ frames) name = frame.name.now

abbrev pub Chained : List RawRule → List Frame → List ℕ → Type 0
Chained rules [] name = Unit {0}
Chained rules (frame ∷ frames) name = (is_among (extended_by rules frame.name.now) (next_name frames name) ≡ true) × Chained rules frames name

abbrev pub is_open : List Frame → List ℕ → Bool
is_open frames name = list_any (λ frame. bytes_eq name frame.name.now) frames

-- between two visits each rule that was entered stands in the order
pub record Idle (rules : List RawRule) (s : Search) : Type 0 where
  pub sorted : Sorted rules s.order
  pub closed : (name : List ℕ) → is_named s.entered name ≡ true → is_named s.order name ≡ true
  pub none : s.below.items ≡ []

-- in a visit: below the topmost rule stand those that led to it
pub record Busy (rules : List RawRule) (s : Search) (top : Frame) : Type 0 where
  pub sorted : Sorted rules s.order
  pub followed : Followed rules s.order top
  pub below : Each (Followed rules s.order) s.below.items
  pub chain : Chained rules s.below.items top.name.now
  pub entered : (name : List ℕ) → is_named s.entered name ≡ true → (is_named s.order name ≡ true) ⊎ ((is_open s.below.items name || bytes_eq name top.name.now) ≡ true)

-- the next item extends the name
pub record NextExtends (frame : Frame) (rest : List RawItem) (name : List ℕ) : Type 0 where
  pub item : RawItem
  pub next : frame.rest.now ≡ item ∷ rest
  pub is : extended_in item ≡ name ∷ []

-- how a step ends
abbrev pub After : List RawRule → Search → Step → Type 0
After rules s (step.Next top) = Busy rules s top
After rules s step.Done = Idle rules s
After rules s step.Cycle = Cyclic rules

-- what is still to do
abbrev pub frames_work : List Frame → ℕ
frames_work [] = 0
frames_work (frame ∷ frames) = length frame.rest.now + 1 + frames_work frames

abbrev pub work : List RawRule → Search → Frame → ℕ
work rules s top = left (λ items. length items + 2) rules s.entered + frames_work s.below.items + length top.rest.now

abbrev pub IsLess : List RawRule → Search → ℕ → Step → Type 0
IsLess rules s bound (step.Next top) = work rules s top < bound
IsLess rules s bound step.Done = Unit {0}
IsLess rules s bound step.Cycle = Unit {0}

-- how the visits of all rules end: true where there was no cycle
abbrev pub FoundBy : List RawRule → Search → Bool → Type 0
FoundBy rules s true = Found rules (Some s.order)
FoundBy rules s false = Cyclic rules

-- how a visit of a name ends: true where there was no cycle
abbrev pub Visited : List RawRule → Search → Option (List ℕ) → Bool → Type 0
Visited rules s id true = Idle rules s × ((name : List ℕ) → id ≡ Some name → is_named rules name ≡ true → is_named s.entered name ≡ true)
Visited rules s id false = Cyclic rules
