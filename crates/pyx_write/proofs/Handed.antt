-- The attributes that are handed to the writer, line by line.
use Rattle.std.proofs.Common.{◌≡◌, ℕ, List, [], ◌∷◌, ◌++◌, map, refl, ap}
use Rattle.std.specs.List.{flat_map}
use Rattle.pyx_write.specs.declared.elements.Given.{Given}
use Rattle.pyx_write.specs.Elements.{attributes}
use Rattle.pyx_write.specs.inner.Given.{given_line, seen}

pub attributes_are : (given : List Given) → attributes (map seen given) ≡ flat_map given_line given
attributes_are [] = refl
attributes_are (one ∷ given) = ap (λ (l : List ℕ). given_line one ++ l) (attributes_are given)
