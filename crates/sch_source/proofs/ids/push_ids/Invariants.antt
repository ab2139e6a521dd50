-- The characters so far were read.
use Rattle.std.proofs.Common.{string_bytes}
use Rattle.sch_source.specs.inner.Ids.{IdsRead}
use Rattle.sch_source.proofs.ids.push_ids.Given as goal

abbrev pub invariant-loop-c : goal.invariant-loop-c
invariant-loop-c l = IdsRead l.yielded l.ids (string_bytes l.current)
