-- The slots that expressions name, against the values of the lets.
use Rattle.std.specs.Prelude.{◌≡◌, ℕ, List, Option, None, Some, Result, Ok, Err}
use Rattle.std.specs.List.{AllByRecursion as Each}
use Rattle.xp_typed_tree.specs.declared.value_type.ValueType.{ValueType}
use Rattle.xp_typed_tree.specs.declared.value_type.ValueType.TheVariants as types
use Rattle.xp_outcome.specs.Slots.{in_slot}
use Rattle.xp_values.specs.declared.values.Value.{Value}
use Rattle.xp_values.specs.declared.values.Value.TheVariants.{NodeSet, Truth, Number, Chars}
use Rattle.xp_values.specs.declared.values.EvalFault.{EvalFault}
use Rattle.xp_meaning.specs.Evaluation.{Lets}

-- the type of a value
abbrev pub type_in : Value → ValueType
type_in (NodeSet nodes) = types.NodeSet
type_in (Truth truth) = types.Truth
type_in (Number number) = types.Number
type_in (Chars characters) = types.Chars

-- a slot is set, with a value of a type or with a fault
abbrev pub IsSetAs : ValueType → Option (Result Value EvalFault) → Type 0
IsSetAs type None = ⊥
IsSetAs type (Some (Ok v)) = type_in v ≡ type
IsSetAs type (Some (Err f)) = Unit {0}

-- each of some slots is so, with the type that it is taken for
abbrev pub SlotsFit : Lets → List (ℕ × ValueType) → Type 0
SlotsFit L slots = Each (λ s. IsSetAs s.1 (in_slot L s.0)) slots
