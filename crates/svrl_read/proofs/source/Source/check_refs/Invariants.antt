-- The kids so far have no fault.
use Rattle.std.proofs.Common.{◌≡◌, drop}
use Rattle.svrl_read.specs.FirstFault.{refs_fault}
use Rattle.svrl_read.proofs.source.Source.check_refs.Given as goal

abbrev pub invariant-loop-kid : goal.invariant-loop-kid
invariant-loop-kid l = refs_fault l.self.tree.now.nodes l.kid-items ≡ refs_fault l.self.tree.now.nodes (drop l.kid-index l.kid-items)
