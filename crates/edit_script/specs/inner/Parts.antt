-- How a text is parted at a byte.
use Rattle.std.specs.Prelude.{◌≡◌, ℕ, ◌<◌, Bool, true, false, List, [], ◌∷◌, length}
use Rattle.std.specs.List.{after_first, before_first, list_any, slice_split}

-- no byte passes the test: the text is one part
pub record Whole (test : ℕ → Bool) (text : List ℕ) : Type 0 where
  pub none : list_any test text ≡ false
  pub parts : slice_split test text ≡ text ∷ []
  pub behind : after_first test text ≡ []

-- what stands in front of the first byte that passes, and behind it
pub record Parted (test : ℕ → Bool) (text front back : List ℕ) : Type 0 where
  pub some : list_any test text ≡ true
  pub front_is : before_first test text ≡ front
  pub back_is : after_first test text ≡ back
  pub parts : slice_split test text ≡ front ∷ slice_split test back
  pub shorter : length back < length text
