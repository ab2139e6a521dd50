-- Ways through a table: upwards to the root, and down in document order (XPath 1.0, section 5).
use Rattle.std.specs.Prelude.{ℕ, zero, suc, Bool, List, [], ◌∷◌, ◌++◌, length, Option, None, Some, sum_by}
use Rattle.std.specs.List.{flat_map}
use Rattle.doc_table.specs.Lists.{mem, last_or}
use Rattle.doc_table.specs.Table.{Table, Content, root, element, attribute, text, comment, instruction, parent_of, kids_of, attrs_of, content_of, value_of}

-- a parent, its parent and so on, for at most so many steps
abbrev pub climb : Table → ℕ → Option ℕ → List ℕ
climb T zero parent = []
climb T (suc steps) None = []
climb T (suc steps) (Some n) = n ∷ climb T steps (parent_of T n)

-- the parent, its parent and so on up to the root, nearest first
abbrev pub ancestors : Table → ℕ → List ℕ
ancestors T n = climb T (length T) (parent_of T n)

-- the node itself, then its ancestors, nearest first
abbrev pub above : Table → ℕ → List ℕ
above T n = n ∷ ancestors T n

-- what a walk through a node and all below it tells, so many levels deep: the node, its attributes, its kids in
-- turn, and at last what closes the node
abbrev pub walk : {A : Type 0} → Table → (ℕ → List A) → (ℕ → List A) → ℕ → ℕ → List A
walk T tells closes zero n = []
walk T tells closes (suc levels) n =
    flat_map tells (n ∷ attrs_of T n) ++ (flat_map (λ kid. walk T tells closes levels kid) (kids_of T n) ++ closes n)

-- the same, with no bound on the levels: no way down is longer than there are numbers
abbrev pub walked : {A : Type 0} → Table → (ℕ → List A) → (ℕ → List A) → ℕ → List A
walked T tells closes n = walk T tells closes (length T) n

-- a node and all below it in document order: the node, its attributes, then its kids
abbrev pub below : Table → ℕ → List ℕ
below T n = walked T (λ m. m ∷ []) (λ _. []) n

-- all live nodes in document order
abbrev pub order : Table → List ℕ
order T = below T 0

-- the characters of a text node, and of no other
abbrev pub characters_in : Option Content → List ℕ
characters_in None = []
characters_in (Some root) = []
characters_in (Some (element _ _)) = []
characters_in (Some (attribute _ _)) = []
characters_in (Some (text characters)) = characters
characters_in (Some (comment _)) = []
characters_in (Some (instruction _ _)) = []

-- the characters of all texts below a node, joined in document order
abbrev pub joined_text : Table → ℕ → List ℕ
joined_text T n = walked T (λ m. characters_in (content_of T m)) (λ _. []) n

-- the string-value of a node with a content (XPath 1.0, section 5)
abbrev pub string_value_in : Table → ℕ → Option Content → List ℕ
string_value_in T n None = []
string_value_in T n (Some root) = joined_text T n
string_value_in T n (Some (element _ _)) = joined_text T n
string_value_in T n (Some (attribute _ value)) = value
string_value_in T n (Some (text characters)) = characters
string_value_in T n (Some (comment characters)) = characters
string_value_in T n (Some (instruction _ characters)) = characters

abbrev pub string_value_of : Table → ℕ → List ℕ
string_value_of T n = string_value_in T n (content_of T n)

-- the bytes of live text: attribute values, texts, comments and instruction data
abbrev pub text_bytes : Table → ℕ
text_bytes T = sum_by (λ n. length (value_of T n)) (order T)

-- the last node in document order
abbrev pub last_node : Table → ℕ
last_node T = last_or 0 (order T)

-- whether a kid put last under the node becomes the last node in document order
abbrev pub is_open : Table → ℕ → Bool
is_open T n = mem n (above T (last_node T))
