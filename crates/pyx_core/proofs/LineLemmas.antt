-- How a text is cut at its line ends.
use Rattle.std.proofs.Common.{◌≡◌, ℕ, zero, suc, ◌<◌, true, false, List, [], ◌∷◌, length, take, drop, get_or, arith, refl}
use Rattle.std.specs.List.{list_any}
use Rattle.std.proofs.lemmas.Bool.{false_from_ne_true}
use Rattle.std.proofs.lemmas.Grind.{common_steps}
use Rattle.pyx_core.specs.Lines.{is_line_end, ended_lines, unended}

-- no byte below `end` ends a line
abbrev pub NoEndBelow : List ℕ → ℕ → Type 0
NoEndBelow bytes end = (k : ℕ) → k < end → is_line_end (get_or bytes k 0) ≡ true → ⊥

pub below_later : (b : ℕ) (bytes : List ℕ) (end : ℕ) → NoEndBelow (b ∷ bytes) (suc end) → NoEndBelow bytes end
below_later b bytes end none = λ k less. none (suc k) (omega arith)

pub not_first : (b : ℕ) (bytes : List ℕ) (end : ℕ) → NoEndBelow (b ∷ bytes) (suc end) → is_line_end b ≡ false
not_first b bytes end none = false_from_ne_true (is_line_end b) (none 0 (omega arith))

-- some byte ends a line
pub some_end : (bytes : List ℕ) (end : ℕ) → end < length bytes → is_line_end (get_or bytes end 0) ≡ true →
    list_any is_line_end bytes ≡ true
some_end [] end less is = absurd (omega arith)
some_end (b ∷ bytes) zero less is = rw is refl
some_end (b ∷ bytes) (suc end) less is = grind (arith, common_steps, some_end bytes end)

-- the first line and the lines after it
pub first_line : (bytes : List ℕ) (end : ℕ) → end < length bytes → NoEndBelow bytes end →
    is_line_end (get_or bytes end 0) ≡ true →
    ended_lines bytes ≡ take end bytes ∷ ended_lines (drop (suc end) bytes)
first_line [] end less none is = absurd (omega arith)
first_line (b ∷ bytes) zero less none is = rw is refl
first_line (b ∷ bytes) (suc end) less none is =
    let later : ended_lines bytes ≡ take end bytes ∷ ended_lines (drop (suc end) bytes) =
    first_line bytes end (omega arith) (below_later b bytes end none) is in
    rw (not_first b bytes end none, later) refl

-- what is after the last line end stands after the first one
pub behind_first : (bytes : List ℕ) (end : ℕ) → end < length bytes → NoEndBelow bytes end →
    is_line_end (get_or bytes end 0) ≡ true → unended bytes ≡ unended (drop (suc end) bytes)
behind_first [] end less none is = absurd (omega arith)
behind_first (b ∷ bytes) zero less none is = rw is refl
behind_first (b ∷ bytes) (suc end) less none is =
    let later : unended bytes ≡ unended (drop (suc end) bytes) =
    behind_first bytes end (omega arith) (below_later b bytes end none) is in
    rw (some_end (b ∷ bytes) (suc end) less is) later

-- bytes without a line end
pub no_end : (bytes : List ℕ) → NoEndBelow bytes (length bytes) → list_any is_line_end bytes ≡ false
no_end [] none = refl
no_end (b ∷ bytes) none =
    rw (not_first b bytes (length bytes) none) (no_end bytes (below_later b bytes (length bytes) none))

pub no_line : (bytes : List ℕ) → NoEndBelow bytes (length bytes) → ended_lines bytes ≡ []
no_line [] none = refl
no_line (b ∷ bytes) none =
    rw (not_first b bytes (length bytes) none, no_line bytes (below_later b bytes (length bytes) none)) refl

pub all_unended : (bytes : List ℕ) → NoEndBelow bytes (length bytes) → unended bytes ≡ bytes
all_unended [] none = refl
all_unended (b ∷ bytes) none = rw (no_end (b ∷ bytes) none) refl
