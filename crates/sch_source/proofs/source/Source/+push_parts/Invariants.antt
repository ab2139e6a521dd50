-- A way down ends, and the kids so far were read.
use Rattle.std.proofs.Common.{◌-◌, ◌+◌, length, take}
use Rattle.std.specs.List.{flat_map}
use Rattle.doc_tree.specs.limits.TheConstants.{MAX_DEPTH}
use Rattle.doc_tree.specs.Walks.{ancestors, below}
use Rattle.sch_rules.specs.RawSchema.{part_at}
use Rattle.sch_source.specs.inner.Messages.{ReadsOn}
use Rattle.sch_source.proofs.source.Source.+push_parts.Given as goal

-- how much deeper a way down can go
abbrev pub decreases-push_parts : goal.decreases-push_parts
decreases-push_parts l = (MAX_DEPTH + 2) - length (ancestors l.self.now.tree.now.nodes l.n)

abbrev pub invariant-loop-kid : goal.invariant-loop-kid
invariant-loop-kid l =
    ReadsOn l.initial.message l.message
    (flat_map (λ kid. flat_map (part_at l.self.tree.now.nodes) (below l.self.tree.now.nodes kid)) (take l.kid-index l.kid-items))
