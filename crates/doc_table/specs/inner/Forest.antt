-- The shape that a well-formed table has: a forest in first-child, next-sibling form, with the root outside.
use Rattle.std.specs.Prelude.{◌≡◌, ℕ, ◌+◌, ◌≤◌, List, [], ◌∷◌, ◌++◌, length, None, Some, if◌then◌else◌}
use Rattle.doc_table.specs.Lists.{occurs}
use Rattle.doc_table.specs.Table.{Table, is_live, parent_of, kids_of, attrs_of}

-- a node with its attributes, its kids, and its later siblings
pub data Forest : Type 0 where
  bare : Forest
  tree : ℕ → List ℕ → Forest → Forest → Forest

-- the numbers at the top
abbrev pub tops : Forest → List ℕ
tops bare = []
tops (tree n ats kids rest) = n ∷ tops rest

-- all numbers in document order
abbrev pub flat : Forest → List ℕ
flat bare = []
flat (tree n ats kids rest) = n ∷ (ats ++ (flat kids ++ flat rest))

-- how many numbers there are
abbrev pub size : Forest → ℕ
size bare = 0
size (tree n ats kids rest) = 1 + (length ats + (size kids + size rest))

-- the attributes of a node stand in the table: they hang from it and hold nothing
abbrev pub ShowsAttributes : Table → ℕ → List ℕ → Type 0
ShowsAttributes T n [] = Unit {0}
ShowsAttributes T n (a ∷ ats) = (parent_of T a ≡ Some n) × (attrs_of T a ≡ []) × (kids_of T a ≡ []) × ShowsAttributes T n ats

-- a node stands in the table with this parent, these attributes and kids
pub record ShowsNode (T : Table) (p n : ℕ) (ats kids : List ℕ) : Type 0 where
  pub parent : parent_of T n ≡ Some p
  pub attributes : attrs_of T n ≡ ats
  pub kids_are : kids_of T n ≡ kids
  pub hold : ShowsAttributes T n ats

-- the nodes of the forest stand in the table under the parent, linked as the forest says
abbrev pub Shows : Table → ℕ → Forest → Type 0
Shows T p bare = Unit {0}
Shows T p (tree n ats kids rest) = ShowsNode T p n ats (tops kids) × Shows T n kids × Shows T p rest

-- the root stands in the table with these kids
pub record ShowsRoot (T : Table) (kids : List ℕ) : Type 0 where
  pub no_parent : parent_of T 0 ≡ None
  pub no_attributes : attrs_of T 0 ≡ []
  pub kids_are : kids_of T 0 ≡ kids

-- one for a live number, none for another
abbrev pub alive : Table → ℕ → ℕ
alive T n = if is_live T n then 1 else 0

-- the whole table shows the forest: the root's kids are its tops, and each live number stands in it just once
pub record Whole (T : Table) (B : Forest) : Type 0 where
  pub root : ShowsRoot T (tops B)
  pub shows : Shows T 0 B
  pub once : (n : ℕ) → occurs n (0 ∷ flat B) ≡ alive T n
  pub few : 1 + size B ≤ length T
