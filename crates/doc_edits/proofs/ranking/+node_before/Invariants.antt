use Rattle.std.proofs.Common.{◌+◌, ◌-◌, length}
use Rattle.doc_table.specs.declared.limits.TheConstants.{MAX_DEPTH}
use Rattle.doc_table.specs.Walks.{ancestors}
use Rattle.doc_table.specs.inner.Parts.{table_of}
use Rattle.doc_edits.proofs.ranking.+node_before.Given as goal

-- how much deeper a way down can go
abbrev pub decreases-node_before : goal.decreases-node_before
decreases-node_before l = (MAX_DEPTH + 2) - length (ancestors (table_of l.bare.now) l.n)
