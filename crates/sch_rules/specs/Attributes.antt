-- The attributes of a schema's elements: those without a namespace.
use Rattle.std.specs.Prelude.{ℕ, Bool, false, ◌&&◌, List, [], Option, None, Some, codes, find, option_map}
use Rattle.std.specs.Option.{option_map_or}
use Rattle.std.specs.Str.{bytes_eq}
use Rattle.doc_tree.specs.NameTests.{has_name}
use Rattle.doc_tree.specs.Table.{Table, Name, attrs_of, name_of, value_of}

-- whether the attribute has no namespace and this name
abbrev pub is_called : Table → List ℕ → ℕ → Bool
is_called T name a = has_name T a [] name

-- the value of the element's attribute with this name
abbrev pub said : Table → ℕ → List ℕ → Option (List ℕ)
said T n name = option_map (value_of T) (find (is_called T name) (attrs_of T n))

-- that value, and no text where there is no such attribute
abbrev pub said_text : Table → ℕ → List ℕ → List ℕ
said_text T n name = option_map_or (λ value. value) (said T n name) []

-- whether the value is there and is `true`
abbrev pub is_true : Option (List ℕ) → Bool
is_true None = false
is_true (Some value) = bytes_eq value (codes "true")

-- whether the element is abstract
abbrev pub is_abstract : Table → ℕ → Bool
is_abstract T n = is_true (said T n (codes "abstract"))
