-- The units at the places so far were looked at.
use Rattle.kept_reads.specs.inner.Forgetting.{ForgetsBelow}
use Rattle.kept_reads.proofs.kept_reads.KeptReads.forget_readers.Given as goal

abbrev pub invariant-loop-place : goal.invariant-loop-place
invariant-loop-place l = ForgetsBelow l.flags.items l.place l.width l.fn.self l.self
