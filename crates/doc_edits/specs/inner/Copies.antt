-- The copies of a piece's nodes: where they come, and what is kept of them.
use Rattle.std.specs.Prelude.{◌≡◌, ℕ, ◌+◌, ◌-◌, ◌*◌, List, length, map, Option, None, Some, slice_index_or}
use Rattle.doc_table.specs.Table.{Name, Table}
use Rattle.doc_table.specs.Walks.{ancestors}
use Rattle.doc_table.specs.declared.node.Node.{Node}
use Rattle.doc_table.specs.inner.Kept.{NameIsBelow, NamesAreBelow, depth_at, rank_at}
use Rattle.doc_table.specs.inner.Parts.{Parts, table_of}
use Rattle.doc_table.specs.inner.Views.{node_seen, table_seen}
use Rattle.doc_edits.specs.declared.copying.Placement.{Placement}
use Rattle.doc_edits.specs.declared.ranking.Spread.{Spread}
use Rattle.doc_edits.specs.Changes.{given, given_number, nodes_in}

-- the number that a node of the piece gets
abbrev pub number_in : Placement → ℕ → ℕ
number_in places m = slice_index_or places.numbers.items m places.past

-- the nodes of a piece come under a node, with ranks evenly spread
pub record IsPlacement (T : Table) (p : ℕ) (spread : Spread) (P : Table) (places : Placement) : Type 0 where
  pub numbers : (m : ℕ) → number_in places m ≡ given_number T P m
  pub first : places.first ≡ length T
  pub parent : places.parent ≡ p
  pub depth : places.depth ≡ length (ancestors T p)
  pub spread_is : places.spread ≡ spread

-- the rank that a node of the piece gets
abbrev pub rank_given : Placement → ℕ → ℕ
rank_given places m = places.spread.first + (number_in places m - places.first) * places.spread.step

abbrev pub depth_copied : Placement → Option Node → ℕ
depth_copied places None = 0
depth_copied places (Some node) = places.depth + node.depth

abbrev pub rank_copied : ℕ → Option Node → ℕ
rank_copied rank None = 0
rank_copied rank (Some node) = rank

abbrev pub NameIsKnown : ℕ → Option Node → Type 0
NameIsKnown count None = Unit {0}
NameIsKnown count (Some node) = NameIsBelow count node.content

-- a copy of a node, with a rank, whose name stands among some names
pub record IsCopy (names from : List Name) (places : Placement) (given_rank : ℕ) (node copy : Option Node) : Type 0 where
  pub seen : node_seen names copy ≡ given (number_in places) places.parent (node_seen from node)
  pub known : NameIsKnown (length names) copy
  pub depth : depth_at copy ≡ depth_copied places node
  pub rank : rank_at copy ≡ rank_copied given_rank node

-- copies of the nodes at some numbers
pub record AreCopies (names from : List Name) (places : Placement) (nodes : List (Option Node)) (numbers : List ℕ) (copies : List (Option Node)) : Type 0 where
  pub seen : table_seen names copies ≡ map (λ m. given (number_in places) places.parent (node_seen from (slice_index_or nodes m None))) numbers
  pub known : NamesAreBelow (length names) copies
  pub depths : map depth_at copies ≡ map (λ m. depth_copied places (slice_index_or nodes m None)) numbers
  pub ranks : map rank_at copies ≡ map (λ m. rank_copied (rank_given places m) (slice_index_or nodes m None)) numbers

-- copies of the nodes of a piece in document order, which come under a node
pub record IsCopied (names : List Name) (T : Table) (p : ℕ) (spread : Spread) (piece : Parts) (copies : List (Option Node)) : Type 0 where
  pub places : Placement
  pub placed : IsPlacement T p spread (table_of piece) places
  pub copied : AreCopies names piece.names places piece.nodes (nodes_in (table_of piece)) copies
