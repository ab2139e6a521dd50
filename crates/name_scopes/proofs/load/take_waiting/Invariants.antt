use Rattle.std.proofs.Common.{length}
use Rattle.name_scopes.proofs.WholeLemmas.{Taking}
use Rattle.name_scopes.proofs.load.take_waiting.Given as goal

abbrev pub invariant-loop-found : goal.invariant-loop-found
invariant-loop-found l = Taking l.fn.reader l.fn.loader l.reader l.loader

abbrev pub decreases-loop-found : goal.decreases-loop-found
decreases-loop-found l = length l.reader.waiting
