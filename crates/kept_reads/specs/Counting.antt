-- Which nodes count as stale.
use Rattle.std.specs.Prelude.{ℕ, ◌+◌, ◌*◌, Bool, ◌&&◌, is_none, List, Option}
use Rattle.doc_tree.specs.Table.{Table, is_live}
use Rattle.xp_outcome.specs.Recorded.{Recorded}
use Rattle.kept_reads.specs.Reads.{reads_at}

-- whether a node lives and nothing is kept of what it read under a pattern, of so many patterns
abbrev pub is_stale_node : Table → List (Option Recorded) → ℕ → ℕ → ℕ → Bool
is_stale_node T entries patterns p n = is_live T n && is_none (reads_at entries (n * patterns + p))
