-- Characters at the front of a text.
use Rattle.std.specs.Prelude.{◌≡◌, ℕ, List, ◌++◌, chars, encode_utf8_all}

-- what stands in a text after characters that are found at its front
pub record IsAfter (front : List ℕ → List ℕ) (text rest : List ℕ) : Type 0 where
  pub characters : chars text ≡ front (chars text) ++ chars rest
  pub bytes : text ≡ encode_utf8_all (front (chars text)) ++ rest
