-- A way down ends, and the kids so far were checked.
use Rattle.std.proofs.Common.{◌-◌, ◌+◌, length, take, Ok}
use Rattle.std.specs.List.{flat_map}
use Rattle.doc_tree.specs.limits.TheConstants.{MAX_DEPTH}
use Rattle.doc_tree.specs.Walks.{ancestors, below}
use Rattle.sch_rules.specs.FirstBroken.{first_over}
use Rattle.sch_rules.specs.Keys.{keys_at}
use Rattle.sch_read.specs.inner.Told.{Told}
use Rattle.sch_read.proofs.check.Checker.+check_below.Given as goal

-- how much deeper a way down can go
abbrev pub decreases-check_below : goal.decreases-check_below
decreases-check_below l = (MAX_DEPTH + 2) - length (ancestors l.self.now.source.tree.now.nodes l.n)

abbrev pub invariant-loop-kid : goal.invariant-loop-kid
invariant-loop-kid l =
    Told (first_over l.self.source.tree.now.nodes l.initial.taken (flat_map (below l.self.source.tree.now.nodes) (take l.kid-index l.kid-items)))
    (flat_map (keys_at l.self.source.tree.now.nodes) (flat_map (below l.self.source.tree.now.nodes) (take l.kid-index l.kid-items)))
    l.initial.taken l.taken (Ok tt)
