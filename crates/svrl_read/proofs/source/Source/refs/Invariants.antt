-- The kids so far were read.
use Rattle.std.proofs.Common.{◌≡◌, take}
use Rattle.std.specs.List.{flat_map}
use Rattle.svrl_read.specs.Value.{ref_at}
use Rattle.svrl_read.proofs.source.Source.refs.Given as goal

abbrev pub invariant-loop-kid : goal.invariant-loop-kid
invariant-loop-kid l = l.list ≡ flat_map (ref_at l.self.tree.now.nodes) (take l.kid-index l.kid-items)
