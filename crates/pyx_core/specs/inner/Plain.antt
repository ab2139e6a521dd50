-- Texts and names of ASCII, which are tested by their bytes.
use Rattle.std.specs.Prelude.{◌≡◌, ℕ, Bool, true, false, ◌&&◌, ◌||◌, List, [], ◌∷◌}
use Rattle.std.specs.List.{list_all}
use Rattle.sch_base.specs.Characters.{lies_in}

-- a character of ASCII from the space on
abbrev pub is_plain : ℕ → Bool
is_plain b = lies_in ((32, 126) ∷ []) b

-- such a character that stands for itself: any but the backslash, 92
abbrev pub is_literal : ℕ → Bool
is_literal b = lies_in ((32, 91) ∷ (93, 126) ∷ []) b

-- where this is said of bytes, each of them is such a character
abbrev pub AreLiteral : Bool → List ℕ → Type 0
AreLiteral said bytes = said ≡ true → list_all is_literal bytes ≡ true

-- such characters, of which the first is the mark and the others are the body
pub record IsMarked (mark : ℕ) (body bytes : List ℕ) : Type 0 where
  pub is : bytes ≡ mark ∷ body
  pub literal : list_all is_literal bytes ≡ true

-- a letter of ASCII or the underscore, each a NameStartChar
abbrev pub is_plain_start : ℕ → Bool
is_plain_start b = lies_in ((65, 90) ∷ (95, 95) ∷ (97, 122) ∷ []) b

-- one of these, a hyphen, a dot or a digit, each a NameChar
abbrev pub is_plain_part : ℕ → Bool
is_plain_part b = is_plain_start b || lies_in ((45, 46) ∷ (48, 57) ∷ []) b

-- a name of such bytes
abbrev pub is_plain_name : List ℕ → Bool
is_plain_name [] = false
is_plain_name (b ∷ rest) = is_plain_start b && list_all is_plain_part rest
