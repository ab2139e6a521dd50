-- Lists of ids, read from the left.
use Rattle.std.specs.Prelude.{◌≡◌, ℕ, List, [], ◌∷◌, ◌++◌, map, encode_utf8_all}
use Rattle.sch_rules.specs.RawSchema.{pieces, without_empty}

-- a text as a list of ids: an empty one is none
abbrev pub id_list : List ℕ → List (List ℕ)
id_list [] = []
id_list (b ∷ text) = (b ∷ text) ∷ []

-- a text before the first of some texts
abbrev pub onto : List ℕ → List (List ℕ) → List (List ℕ)
onto current [] = current ∷ []
onto current (text ∷ texts) = (current ++ text) ∷ texts

-- the ids where some are read, one is begun, and these characters follow
abbrev pub ids_after : List (List ℕ) → List ℕ → List ℕ → List (List ℕ)
ids_after ids current rest = ids ++ without_empty (onto current (map encode_utf8_all (pieces rest)))

-- the characters so far were read
pub record IdsRead (read : List ℕ) (ids : List (List ℕ)) (current : List ℕ) : Type 0 where
  pub goes_on : (rest : List ℕ) → ids_after [] [] (read ++ rest) ≡ ids_after ids current rest
