-- Elements of one expanded name among siblings.
use Rattle.std.specs.Prelude.{◌≡◌, ℕ, Bool, true, ◌&&◌, List, ◌∷◌, ◌++◌, length, filter}
use Rattle.doc_table.specs.Kinds.{is_element}
use Rattle.doc_table.specs.Table.{Table, kids_of, kind_of}
use Rattle.doc_tree.specs.NameTests.{has_name}

-- whether a node is an element with this expanded name: the namespace, empty for none, and the local part
abbrev pub is_element_called : Table → List ℕ → List ℕ → ℕ → Bool
is_element_called T uri local n = is_element (kind_of T n) && has_name T n uri local

-- so many elements of its expanded name stand before an element among its siblings
abbrev pub CountsAlike : Table → ℕ → ℕ → Type 0
CountsAlike T n count = (p : ℕ) (front back uri local : List ℕ) → kids_of T p ≡ front ++ n ∷ back → is_element_called T uri local n ≡ true →
    count ≡ length (filter (is_element_called T uri local) front)
