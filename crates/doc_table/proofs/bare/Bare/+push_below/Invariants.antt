use Rattle.std.proofs.Common.{◌≡◌, ◌++◌, ◌-◌, ◌+◌, take, length}
use Rattle.std.specs.List.{flat_map}
use Rattle.doc_table.specs.declared.limits.TheConstants.{MAX_DEPTH}
use Rattle.doc_table.specs.Walks.{below, ancestors}
use Rattle.doc_table.specs.inner.Parts.{table_of}
use Rattle.doc_table.proofs.bare.Bare.+push_below.Given as goal

-- how much deeper a way down can go
abbrev pub decreases-push_below : goal.decreases-push_below
decreases-push_below l = (MAX_DEPTH + 2) - length (ancestors (table_of l.self.now) l.n)

abbrev pub invariant-loop-kid : goal.invariant-loop-kid
invariant-loop-kid l = l.list ≡ l.initial.list ++ flat_map (below (table_of l.self)) (take l.kid-index l.kid-items)
