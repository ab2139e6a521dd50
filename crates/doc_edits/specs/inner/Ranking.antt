-- Ranks of new nodes, and ranks given anew.
use Rattle.std.specs.Prelude.{◌≡◌, ℕ, ◌+◌, ◌*◌, List, [], ◌∷◌, ◌++◌, length, take, Option, None, Some, slice_set, slice_index_or}
use Rattle.std.specs.List.{flat_map}
use Rattle.doc_table.specs.declared.node.Node.{Node}
use Rattle.doc_table.specs.declared.ranks.TheConstants.{RANK_STEP}
use Rattle.doc_table.specs.inner.Kept.{ranks_of}
use Rattle.doc_table.specs.inner.Parts.{Parts, table_of}
use Rattle.doc_table.specs.Lists.{Rise}
use Rattle.doc_table.specs.Table.{Table, attrs_of, kids_of}
use Rattle.doc_table.specs.Walks.{below, order}
use Rattle.doc_edits.specs.declared.ranking.Spread.{Spread}

-- document order in two parts, between which nodes come under a node behind so many of its kids
pub record Seam (T : Table) (p before : ℕ) (front back : List ℕ) : Type 0 where
  pub ahead : List ℕ
  pub front_is : front ≡ ahead ++ (p ∷ (attrs_of T p ++ flat_map (below T) (take before (kids_of T p))))
  pub whole : order T ≡ front ++ back

-- so many ranks, evenly spread, lie between those of the two parts
pub record HasRoom (nodes : List (Option Node)) (front back : List ℕ) (count : ℕ) (spread : Spread) : Type 0 where
  pub ahead : Rise 0 (ranks_of nodes front) spread.first
  pub behind : Rise (spread.first + count * spread.step) (ranks_of nodes back) (RANK_STEP * (length nodes + count))

-- a node with another rank
abbrev pub with_rank : ℕ → Option Node → Option Node
with_rank rank None = None
with_rank rank (Some node) = Some (record node { rank = rank })

-- nodes with ranks by their places, of which this is the first
abbrev pub ranked : ℕ → List ℕ → List (Option Node) → List (Option Node)
ranked place [] nodes = nodes
ranked place (n ∷ ns) nodes = ranked (place + 1) ns (slice_set nodes n (with_rank (RANK_STEP * place) (slice_index_or nodes n None)))

-- all nodes with ranks by their places in document order
abbrev pub reranked : Parts → Parts
reranked parts = record parts { nodes = ranked 0 (order (table_of parts)) parts.nodes }
