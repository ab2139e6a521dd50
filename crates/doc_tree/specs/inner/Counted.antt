-- What is kept of elements of one expanded name among siblings, by the numbers of nodes.
use Rattle.std.specs.Prelude.{◌≡◌, ◌≢◌, ◌≤◌, ◌+◌, ℕ, Bool, true, false, ◌&&◌, ◌⊎◌, List, [], ◌∷◌, ◌++◌, length, filter, Some, bytes_eq, slice_get}
use Rattle.doc_table.specs.Table.{Table, Content, root, element, attribute, text, comment, instruction, kids_of}
use Rattle.doc_tree.specs.Alike.{CountsAlike, is_element_called}
use Rattle.doc_tree.specs.declared.alike.TheConstants.{UNKNOWN}

-- of each of the first nodes its count is kept, where it is known
pub record AreCounted (T : Table) (counts : List ℕ) : Type 0 where
  pub few : length counts ≤ length T
  pub each : (n count : ℕ) → slice_get counts n ≡ Some count → count ≢ UNKNOWN → CountsAlike T n count

-- the counts after the node n with this count: it is kept behind the others, or is not
abbrev pub IsNoted : List ℕ → ℕ → ℕ → List ℕ → Type 0
IsNoted before n count after = (after ≡ before) ⊎ ((after ≡ before ++ count ∷ []) × (n ≡ length before))

-- whether a content is an element with this expanded name
abbrev pub is_called : Content → List ℕ → List ℕ → Bool
is_called root uri local = false
is_called (element name _) uri local = bytes_eq name.uri uri && bytes_eq name.local local
is_called (attribute _ _) uri local = false
is_called (text _) uri local = false
is_called (comment _) uri local = false
is_called (instruction _ _) uri local = false

-- the count, where it is known, of a content that comes behind the kids of a node
abbrev pub CountsUnder : Table → ℕ → Content → ℕ → Type 0
CountsUnder T p content count = count ≢ UNKNOWN → (uri local : List ℕ) → is_called content uri local ≡ true →
    count ≡ length (filter (is_element_called T uri local) (kids_of T p))

-- the count, where it is known, of an element that comes behind one like it
abbrev pub CountsBehind : Table → ℕ → ℕ → Type 0
CountsBehind T n count = count ≢ UNKNOWN → (p : ℕ) (front back uri local : List ℕ) → kids_of T p ≡ front ++ n ∷ back → is_element_called T uri local n ≡ true →
    count ≡ length (filter (is_element_called T uri local) front) + 1
