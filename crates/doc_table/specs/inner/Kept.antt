-- What is kept beside what contracts see: depths, ranks, and names by number.
use Rattle.std.specs.Prelude.{ℕ, ◌<◌, Bool, true, false, List, [], ◌∷◌, ◌++◌, map, Option, None, Some, slice_index_or}
use Rattle.doc_table.specs.declared.node.Node.{Node}
use Rattle.doc_table.specs.declared.node.NodeContent.{NodeContent}
use Rattle.doc_table.specs.declared.node.NodeContent.TheVariants as kept

-- the number of ancestors that is kept with a node
abbrev pub depth_at : Option Node → ℕ
depth_at None = 0
depth_at (Some node) = node.depth

-- the rank that is kept with a node
abbrev pub rank_at : Option Node → ℕ
rank_at None = 0
rank_at (Some node) = node.rank

-- the ranks of some nodes, by their numbers
abbrev pub ranks_of : List (Option Node) → List ℕ → List ℕ
ranks_of nodes ns = map (λ n. rank_at (slice_index_or nodes n None)) ns

-- the name of a node, where it has one, is among the first so many
abbrev pub NameIsBelow : ℕ → NodeContent → Type 0
NameIsBelow count kept.Root = Unit {0}
NameIsBelow count (kept.Element id _) = id < count
NameIsBelow count (kept.Attribute id _) = id < count
NameIsBelow count (kept.Text _) = Unit {0}
NameIsBelow count (kept.Comment _) = Unit {0}
NameIsBelow count (kept.Pi id _) = id < count

abbrev pub NamesAreBelow : ℕ → List (Option Node) → Type 0
NamesAreBelow count [] = Unit {0}
NamesAreBelow count (None ∷ nodes) = NamesAreBelow count nodes
NamesAreBelow count (Some node ∷ nodes) = NameIsBelow count node.content × NamesAreBelow count nodes

-- a node with one number more among its kids, or among its attributes
abbrev pub linked : Node → ℕ → Bool → Node
linked node n true = record node { attributes = node.attributes ++ n ∷ [] }
linked node n false = record node { kids = node.kids ++ n ∷ [] }

abbrev pub kept_link : ℕ → Bool → Option Node → Option Node
kept_link n is_attribute None = None
kept_link n is_attribute (Some node) = Some (linked node n is_attribute)
