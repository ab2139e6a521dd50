-- Places at which rules can be broken, in any order, and the first broken rule among them: that of the place with the least
-- node number, and there the one with the least number. A schema's elements are numbered in document order.
use Rattle.std.specs.Prelude.{◌≡◌, ℕ, ◌<◌, ◌≤◌, ◌⊎◌, List, [], ◌∷◌, Option, None}
pub use Rattle.sch_first_fault.specs.Earlier.{earlier, precedes}
use Rattle.sch_model.specs.declared.fault.SchemaFault.{SchemaFault}
use Rattle.sch_rules.specs.FirstBroken.{Gives, least}

-- an element with the rules that it can break, by number: for each the name that is told where it is broken
pub record Place : Type 0 where
  pub node : ℕ
  pub rules : List (ℕ × Option (List ℕ))

-- a rule is broken at one of the places
abbrev pub BrokenAmong : List Place → ℕ → ℕ → List ℕ → Type 0
BrokenAmong [] rule n name = ⊥
BrokenAmong (place ∷ places) rule n name = ((place.node ≡ n) × Gives place.rules rule name) ⊎ BrokenAmong places rule n name

-- a rule is broken, and each broken rule stands at a later place, or there with no less number
pub record IsFirstAmong (places : List Place) (f : SchemaFault) : Type 0 where
  pub broken : BrokenAmong places f.rule f.node f.name
  pub no_other : (rule n : ℕ) (name : List ℕ) → BrokenAmong places rule n name → (f.node < n) ⊎ ((f.node ≡ n) × (f.rule ≤ rule))

-- no rule is broken at any of the places
abbrev pub NoneBroken : List Place → Type 0
NoneBroken places = (rule n : ℕ) (name : List ℕ) → BrokenAmong places rule n name → ⊥

-- the same as a function
abbrev pub first_among : List Place → Option SchemaFault
first_among [] = None
first_among (place ∷ places) = earlier (least place.node place.rules) (first_among places)
