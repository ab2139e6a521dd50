-- The kids so far have no fault and were read.
use Rattle.std.proofs.Common.{drop}
use Rattle.svrl_read.specs.inner.Building.{HasRead}
use Rattle.svrl_read.proofs.source.Source.take_all.Given as goal

abbrev pub invariant-loop-kid : goal.invariant-loop-kid
invariant-loop-kid l = HasRead l.self.tree.now.nodes l.initial.builder l.builder l.kid-items (drop l.kid-index l.kid-items)
