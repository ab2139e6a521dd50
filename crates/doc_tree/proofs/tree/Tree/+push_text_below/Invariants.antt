use Rattle.std.proofs.Common.{◌≡◌, ◌++◌, ◌-◌, ◌+◌, take, length, string_bytes}
use Rattle.std.specs.List.{flat_map}
use Rattle.doc_table.specs.declared.limits.TheConstants.{MAX_DEPTH}
use Rattle.doc_table.specs.Walks.{joined_text, ancestors}
use Rattle.doc_tree.proofs.tree.Tree.+push_text_below.Given as goal

-- how much deeper a way down can go
abbrev pub decreases-push_text_below : goal.decreases-push_text_below
decreases-push_text_below l = (MAX_DEPTH + 2) - length (ancestors l.self.now.nodes l.n)

abbrev pub invariant-loop-kid : goal.invariant-loop-kid
invariant-loop-kid l = string_bytes l.text ≡ string_bytes l.initial.text ++ flat_map (joined_text l.self.nodes) (take l.kid-index l.kid-items)
