-- What was read, and the rest filled.
use Rattle.std.proofs.Common.{◌≡◌, ◌+◌, length}
use denote.Text.{Utf8}
use denote.Shadow.{shadow}
use Rattle.pyx_core.specs.Escapes.{escaped}
use Rattle.sch_expansion.specs.Filled.{filled}
use Rattle.sch_flat.specs.FlatSize.{capped, escapes_len}
use Rattle.sch_sizes.proofs.filled_len.FilledLen.len.Given as goal

abbrev pub invariant-loop-piece : goal.invariant-loop-piece
invariant-loop-piece l = shadow (Utf8 l.rest) × (l.len ≡ capped l.len) × (capped (l.len + length (escaped (filled l.self l.rest))) ≡ escapes_len (filled l.self l.text))

abbrev pub decreases-loop-piece : goal.decreases-loop-piece
decreases-loop-piece l = length l.rest
