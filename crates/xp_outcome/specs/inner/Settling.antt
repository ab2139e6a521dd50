-- Lists freed of repeats.
use Rattle.std.specs.Prelude.{◌≡◌, ℕ, Bool, true, false, List, Option, Some, None, slice_get}
use Rattle.std.specs.List.{list_any}

-- items that are equal are one
abbrev pub IsExact : {T : Type 0} → (T → T → Bool) → Type 0
IsExact {T} eq = (x y : T) → eq x y ≡ true → x ≡ y

-- the two lists hold the same items, in some order and of equal ones perhaps not as many: where equal items are one, a
-- test that one list has an item for has one in the other
pub record SameItems {T : Type 0} (eq : T → T → Bool) (old new : List T) : Type 0 where
  pub found : IsExact eq → (test : T → Bool) → list_any test new ≡ list_any test old

-- whether there is an item that equals this one
abbrev pub is_item : {T : Type 0} → (T → T → Bool) → Option T → T → Bool
is_item eq (Some held) item = eq held item
is_item eq None item = false

-- whether an item stands at a place
abbrev pub is_item_at : {T : Type 0} → (T → T → Bool) → List T → ℕ → T → Bool
is_item_at eq items place item = is_item eq (slice_get items place) item
