-- Where faults stand. The parts of an expression are taken in the order in which they begin in the text, so that the way down
-- to a part says what stands before it; offsets alone don't, since parts may begin at one offset (a call and its name, an
-- operand and the first operand in it).
use Rattle.std.specs.Prelude.{◌≡◌, ◌⊎◌, ℕ}
use Rattle.xp_types.specs.declared.faults.TypeKind.{TypeKind}
use Rattle.xp_types.specs.declared.faults.TypeFault.{TypeFault}
use Rattle.xp_types.specs.declared.faults.CheckError.{CheckError}
use Rattle.xp_types.specs.declared.faults.CheckError.TheVariants as errors

-- the way to a fault: into what begins first, or into what comes after that
pub data Place : Type 0 where
  itself : Place
  left : Place → Place
  right : Place → Place

-- a place stands before another one: where their ways part, it goes to the left
abbrev pub Before : Place → Place → Type 0
Before (left p) (left q) = Before p q
Before (left p) (right q) = Unit {0}
Before (right p) (right q) = Before p q
Before p q = ⊥

-- no fault
abbrev pub NoFault : Place → TypeFault → Type 0
NoFault place f = ⊥

-- one fault, where its cause holds
abbrev pub FaultAt : Type 0 → TypeKind → ℕ → Place → TypeFault → Type 0
FaultAt Cause kind offset itself f = Cause × (f ≡ record { kind = kind; offset = offset })
FaultAt Cause kind offset (left place) f = ⊥
FaultAt Cause kind offset (right place) f = ⊥

-- the faults of a part, and of what comes after it
abbrev pub InOrder : (Place → TypeFault → Type 0) → (Place → TypeFault → Type 0) → Place → TypeFault → Type 0
InOrder Part Later itself f = ⊥
InOrder Part Later (left place) f = Part place f
InOrder Part Later (right place) f = Later place f

-- the first fault: each one stands at its place or at a later one
pub record IsFirst (Has : Place → TypeFault → Type 0) (f : TypeFault) : Type 0 where
  pub place : Place
  pub stands : Has place f
  pub least : (other : Place) (g : TypeFault) → Has other g → (place ≡ other) ⊎ Before place other

-- an error is a fault, unless memory ran out
abbrev pub UnlessMemory : (TypeFault → Type 0) → CheckError → Type 0
UnlessMemory P (errors.Fault fault) = P fault
UnlessMemory P errors.Memory = Unit {0}
