-- Whether slots are trimmed, by their last one.
use Rattle.std.specs.Prelude.{ℕ, ◌-◌, Bool, true, false, List, length, Option, None, Some, slice_get}

abbrev pub is_empty_slot : {V : Type 0} → Option (Option V) → Bool
is_empty_slot (Some None) = true
is_empty_slot (Some (Some v)) = false
is_empty_slot None = false

-- there is a slot, and the last one is empty
abbrev pub ends_empty : {V : Type 0} → List (Option V) → Bool
ends_empty slots = is_empty_slot (slice_get slots (length slots - 1))
