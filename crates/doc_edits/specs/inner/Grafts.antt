-- The kept nodes of a table into which a piece comes.
use Rattle.std.specs.Prelude.{ℕ, List, [], ◌∷◌, ◌++◌, take, drop, Option, None, Some, slice_index_or, slice_set}
use Rattle.doc_table.specs.declared.node.Node.{Node}

abbrev pub kept_kids : Option Node → List ℕ
kept_kids None = []
kept_kids (Some node) = node.kids

-- a node with one kid more, behind so many
abbrev pub kept_kid : ℕ → ℕ → Option Node → Option Node
kept_kid before k None = None
kept_kid before k (Some node) = Some (record node { kids = take before node.kids ++ k ∷ drop before node.kids })

-- a node has one kid more, and the copies of the piece's nodes stand behind all others
abbrev pub grafted : ℕ → ℕ → ℕ → List (Option Node) → List (Option Node) → List (Option Node)
grafted parent before first copies nodes = slice_set nodes parent (kept_kid before first (slice_index_or nodes parent None)) ++ copies
