-- What is kept where a node is removed: its parent without it, and no node at some numbers.
use Rattle.std.specs.Prelude.{◌≡◌, ℕ, true, List, [], ◌∷◌, Option, None, Some, slice_set}
use Rattle.doc_table.specs.declared.node.Node.{Node}
use Rattle.doc_table.specs.inner.Parts.{Parts, table_of}
use Rattle.doc_table.specs.inner.Sound.{Formed, count_live, text_held}
use Rattle.doc_table.specs.Lists.{mem}
use Rattle.doc_table.specs.Table.{Table, entry_at, is_live}
use Rattle.doc_table.specs.Walks.{below}
use Rattle.doc_edits.specs.Changes.{without}

-- the counts that are kept are those of the table
pub record Counted (parts : Parts) : Type 0 where
  pub live_is : parts.live ≡ count_live (table_of parts)
  pub bytes_is : parts.text_bytes ≡ text_held (table_of parts)

-- no node is kept at some numbers
abbrev pub emptied : List ℕ → List (Option Node) → List (Option Node)
emptied [] nodes = nodes
emptied (n ∷ ns) nodes = slice_set (emptied ns nodes) n None

-- a node and all below it are as in the table of a tree
pub record HasBranch (T U : Table) (n : ℕ) : Type 0 where
  pub formed : Formed T
  pub lives : is_live T n ≡ true
  pub same : (m : ℕ) → mem m (below T n) ≡ true → entry_at U m ≡ entry_at T m

-- where it is so, just these are gone
abbrev pub Clears : Parts → Parts → ℕ → Type 0
Clears old new n = (T : Table) → HasBranch T (table_of old) n → new.nodes ≡ emptied (below T n) old.nodes

abbrev pub kept_attributes : Option Node → List ℕ
kept_attributes None = []
kept_attributes (Some node) = node.attributes

-- a node without a number among its kids and attributes
abbrev pub kept_without : ℕ → Option Node → Option Node
kept_without n None = None
kept_without n (Some node) = Some (record node { kids = without n node.kids; attributes = without n node.attributes })
