-- Positions of characters as counts: how many are passed over, and how many are kept then.
use Rattle.std.specs.Prelude.{◌≡◌, ℕ, zero, suc, ℤ, pos, negsuc, ◌≤◌, List, length, take, drop, Option}
use Rattle.xp_values.specs.declared.numbers.Num.{Num}
use Rattle.xp_values.specs.Texts.{is_within, at_positions}

-- how many positions stand before a number; the first position is 1
abbrev pub positions_before : ℤ → ℕ
positions_before (pos zero) = 0
positions_before (pos (suc n)) = n
positions_before (negsuc n) = 0

-- so many characters, after those passed over, are the ones within, in any list of at most so many
abbrev pub KeepsWithin : Num → Option Num → ℕ → ℕ → ℕ → Type 0
KeepsWithin from len most skipped kept =
    (characters : List ℕ) → length characters ≤ most → at_positions (is_within from len) 1 characters ≡ take kept (drop skipped characters)
