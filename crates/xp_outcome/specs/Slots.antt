-- Numbered slots, each empty or with a value.
use Rattle.std.specs.Prelude.{◌≡◌, ℕ, ◌+◌, ◌-◌, List, [], ◌∷◌, ◌++◌, length, take, replicate, Option, None, Some, slice_index_or, slice_set}

-- the value in a slot, None where it is empty or past the end
abbrev pub in_slot : {V : Type 0} → List (Option V) → ℕ → Option V
in_slot slots slot = slice_index_or slots slot None

-- the slots as far as a slot, with empty ones at the end where there are fewer
abbrev pub reaching : {V : Type 0} → List (Option V) → ℕ → List (Option V)
reaching slots slot = slots ++ replicate (slot + 1 - length slots) None

-- the slots with this value in a slot
abbrev pub with_slot : {V : Type 0} → List (Option V) → ℕ → V → List (Option V)
with_slot slots slot v = slice_set (reaching slots slot) slot (Some v)

-- one slot more before others; an empty one before none is left out
abbrev pub slot_before : {V : Type 0} → Option V → List (Option V) → List (Option V)
slot_before (Some v) slots = Some v ∷ slots
slot_before None [] = []
slot_before None (x ∷ slots) = None ∷ x ∷ slots

-- the slots without the empty ones at their end
abbrev pub trimmed : {V : Type 0} → List (Option V) → List (Option V)
trimmed [] = []
trimmed (x ∷ slots) = slot_before x (trimmed slots)

-- no slot at the end is empty
abbrev pub IsTrimmed : {V : Type 0} → List (Option V) → Type 0
IsTrimmed slots = trimmed slots ≡ slots

-- the slots below a number
abbrev pub slots_below : {V : Type 0} → ℕ → List (Option V) → List (Option V)
slots_below len slots = trimmed (take len slots)
