-- The parts of a bare table as they are kept, what callers see of them, and when they are sound.
use Rattle.std.specs.Prelude.{ℕ, List, Option}
use Rattle.doc_table.specs.declared.node.Node.{Node}
use Rattle.doc_table.specs.Table.{Table, Name, Contents}
use Rattle.doc_table.specs.inner.Views.{table_seen}
use Rattle.doc_table.specs.inner.Sound.{Sound}

-- the nodes and names as they are kept, the number of live nodes, the bytes of live text, and the pair cap
pub record Parts : Type 0 where
  pub nodes : List (Option Node)
  pub names : List Name
  pub live : ℕ
  pub text_bytes : ℕ
  pub pair_cap : ℕ

-- the table that the parts show
abbrev pub table_of : Parts → Table
table_of parts = table_seen parts.names parts.nodes

-- the table with its names and its pair cap
abbrev pub contents : Parts → Contents
contents parts = record { nodes = table_of parts; names = parts.names; pair_cap = parts.pair_cap }

-- the parts are those of a tree
abbrev pub IsSound : Parts → Type 0
IsSound parts = Sound parts.nodes parts.names parts.live parts.text_bytes
