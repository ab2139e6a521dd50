-- With a path or without.
use Rattle.std.proofs.Common.{◌≡◌, ℕ, List, [], ◌∷◌, Option, None, Some, option_map}
use Rattle.std.specs.Prelude.{codes}
use Rattle.sch_flat.specs.declared.size.FlatSize.{FlatSize}
use Rattle.sch_flat.specs.FlatDocument.{element}
use Rattle.sch_flat.specs.FlatSize.{escapes_len, size_of}
use Rattle.sch_flat.proofs.known_sizes.name_size.Goals as goal

abbrev name_with : Option (List ℕ) → FlatSize
name_with path = size_of (element (codes "sch:name") ((codes "path", path) ∷ []) [])

without : (len : Option ℕ) (result : FlatSize) (path : Option (List ℕ)) → len ≡ None → len ≡ option_map escapes_len path → result ≡ name_with None → result ≡ name_with path
without len result None none is r = r
without len result (Some path) none is r = absurd (cc)

with : (len : Option ℕ) (its : ℕ) (result : FlatSize) (path : Option (List ℕ)) → len ≡ Some its → len ≡ option_map escapes_len path →
    ((text : List ℕ) → its ≡ escapes_len text → result ≡ name_with (Some text)) → result ≡ name_with path
with len its result None some is r = absurd (cc)
with len its result (Some path) some is r = r path (cc)

pub returns-in-None : goal.returns-in-None
returns-in-None c = λ path is. without _ _ path c.in-None.is is (c.element_size.ensures [] c.none.ensures)

pub returns-in-Some : goal.returns-in-Some
returns-in-Some c = λ path is. with _ _ _ path c.in-Some.is is c.path_size.ensures
