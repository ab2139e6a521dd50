use Rattle.std.proofs.Common.{length}
use Rattle.doc_table.specs.Walks.{ancestors}
use Rattle.doc_table.specs.inner.Parts.{table_of}
use Rattle.doc_edits.proofs.ranking.+rank_behind.Given as goal

-- how far up a way can go
abbrev pub decreases-rank_behind : goal.decreases-rank_behind
decreases-rank_behind l = length (ancestors (table_of l.bare.now) l.n)
