-- Elements in lines of PYX, with attributes in one fixed order and only where given.
use Rattle.std.specs.Prelude.{ℕ, List, [], ◌∷◌, ◌++◌, Option, None, Some}
use Rattle.pyx_write.specs.Written.{start_line, attr_line, end_line}

-- an attribute, where a value is given
abbrev pub attribute : List ℕ → Option (List ℕ) → List ℕ
attribute name None = []
attribute name (Some value) = attr_line name value

-- attributes with these names, in this order, each where a value is given
abbrev pub attributes : List (List ℕ × Option (List ℕ)) → List ℕ
attributes [] = []
attributes ((name, value) ∷ more) = attribute name value ++ attributes more

-- how an element begins
abbrev pub opening : List ℕ → List (List ℕ × Option (List ℕ)) → List ℕ
opening name given = start_line name ++ attributes given

-- an element with its attributes, and the lines of what it holds
abbrev pub element : List ℕ → List (List ℕ × Option (List ℕ)) → List ℕ → List ℕ
element name given held = opening name given ++ (held ++ end_line name)
