-- A way down ends, and the kids so far were written.
use Rattle.std.proofs.Common.{◌-◌, ◌+◌, length, take, Ok}
use Rattle.std.specs.List.{flat_map}
use Rattle.sch_io.specs.Wrote.{Wrote}
use Rattle.sch_io.specs.declared.error.Failed.{Failed}
use Rattle.doc_tree.specs.limits.TheConstants.{MAX_DEPTH}
use Rattle.doc_tree.specs.Walks.{ancestors}
use Rattle.doc_write.specs.inner.Parts.{text_below}
use Rattle.doc_write.proofs.tree.+write_below.Given as goal

-- how much deeper a way down can go
abbrev pub decreases-write_below : goal.decreases-write_below
decreases-write_below g l = (MAX_DEPTH + 2) - length (ancestors l.tree.now.nodes l.n)

abbrev pub invariant-loop-kid : goal.invariant-loop-kid
invariant-loop-kid g l =
    Wrote {T = Unit {0}} {E = Failed} (g.O.Sink.log l.initial.sink) (g.O.Sink.log l.sink)
    (flat_map (text_below l.fn.tree.nodes) (take l.kid-index l.kid-items)) (Ok tt)
