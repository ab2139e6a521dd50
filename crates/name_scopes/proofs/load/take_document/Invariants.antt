use Rattle.std.proofs.Common.{length}
use Rattle.name_scopes.specs.inner.Load.{Stands}
use Rattle.name_scopes.proofs.load.take_document.Given as goal

abbrev pub invariant-loop-rest : goal.invariant-loop-rest
invariant-loop-rest l = Stands l.bytes l.rest l.reader l.loader

abbrev pub decreases-loop-rest : goal.decreases-loop-rest
decreases-loop-rest l = length l.rest
