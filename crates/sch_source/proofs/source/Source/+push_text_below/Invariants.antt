-- A way down ends, and the texts of the kids so far stand at the end.
use Rattle.std.proofs.Common.{◌≡◌, ◌++◌, ◌-◌, ◌+◌, length, take, string_bytes}
use Rattle.std.specs.List.{flat_map}
use Rattle.doc_tree.specs.limits.TheConstants.{MAX_DEPTH}
use Rattle.doc_tree.specs.Walks.{ancestors, below}
use Rattle.sch_rules.specs.RawSchema.{counted_text}
use Rattle.sch_source.proofs.source.Source.+push_text_below.Given as goal

-- how much deeper a way down can go
abbrev pub decreases-push_text_below : goal.decreases-push_text_below
decreases-push_text_below l = (MAX_DEPTH + 2) - length (ancestors l.self.now.tree.now.nodes l.n)

abbrev pub invariant-loop-kid : goal.invariant-loop-kid
invariant-loop-kid l =
    string_bytes l.text ≡ string_bytes l.initial.text
    ++ flat_map (λ kid. flat_map (counted_text l.self.tree.now.nodes) (below l.self.tree.now.nodes kid)) (take l.kid-index l.kid-items)
