use Rattle.std.proofs.Common.{◌≡◌, ◌-◌, ◌+◌, take, length}
use Rattle.std.specs.List.{flat_map}
use Rattle.doc_table.specs.declared.limits.TheConstants.{MAX_DEPTH}
use Rattle.doc_table.specs.Lines.{lines_below}
use Rattle.doc_table.specs.Walks.{ancestors}
use Rattle.tree_same.proofs.same.+same_below.Given as goal

-- how much deeper a way down can go
abbrev pub decreases-same_below : goal.decreases-same_below
decreases-same_below l = (MAX_DEPTH + 2) - length (ancestors l.a.now.nodes l.n)

-- what the kids passed have told
abbrev pub invariant-loop-i : goal.invariant-loop-i
invariant-loop-i l = flat_map (lines_below l.b.nodes) (take l.i l.others) ≡ flat_map (lines_below l.a.nodes) (take l.i l.kids)
