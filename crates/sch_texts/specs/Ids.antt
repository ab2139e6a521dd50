-- Lists of ids as one text (ISO/IEC 19757-3:2016, section 5.4).
use Rattle.std.specs.Prelude.{ℕ, List, [], ◌∷◌, ◌++◌, Option, None, Some, codes}

-- ids with a single space between each two
abbrev pub spaced : List (List ℕ) → List ℕ
spaced [] = []
spaced (id ∷ []) = id
spaced (id ∷ next ∷ ids) = id ++ (codes " " ++ spaced (next ∷ ids))

-- a list of ids, absent without ids
abbrev pub id_list : List (List ℕ) → Option (List ℕ)
id_list [] = None
id_list (id ∷ ids) = Some (spaced (id ∷ ids))
