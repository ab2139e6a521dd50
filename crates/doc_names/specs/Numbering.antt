-- Lists whose items are numbered by their places in the order of first use.
use Rattle.std.specs.Prelude.{◌≡◌, ℕ, List, [], ◌∷◌, ◌++◌, length, slice_get, Some, ◌⊎◌}

-- each item stands once
abbrev pub EachOnce : {A : Type 0} → List A → Type 0
EachOnce {A} xs = (i j : ℕ) (x : A) → slice_get xs i ≡ Some x → slice_get xs j ≡ Some x → i ≡ j

-- a list after a use of an item: the item has the number, and was added at the end if it was new
pub record Numbered {A : Type 0} (before after : List A) (x : A) (number : ℕ) : Type 0 where
  pub given : slice_get after number ≡ Some x
  pub added : (after ≡ before) ⊎ ((after ≡ before ++ x ∷ []) × (number ≡ length before))
