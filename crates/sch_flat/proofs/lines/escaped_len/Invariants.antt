-- The bytes so far are counted.
use Rattle.std.proofs.Common.{◌≡◌, length, take}
use Rattle.pyx_core.specs.Escapes.{escaped}
use Rattle.sch_flat.specs.FlatSize.{capped}
use Rattle.sch_flat.proofs.lines.escaped_len.Given as goal

abbrev pub invariant-loop-byte : goal.invariant-loop-byte
invariant-loop-byte l = l.len ≡ capped (length (escaped (take l.byte-index l.byte-items)))
