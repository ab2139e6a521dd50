-- What was written, and the rest filled, is the text filled.
use Rattle.std.proofs.Common.{◌≡◌, ◌++◌, length, string_bytes}
use denote.Text.{Utf8}
use denote.Shadow.{shadow}
use Rattle.sch_expansion.specs.Filled.{filled}
use Rattle.sch_expansion.proofs.filling.Filling.fill.Given as goal

abbrev pub invariant-loop-piece : goal.invariant-loop-piece
invariant-loop-piece l = shadow (Utf8 l.rest) × (string_bytes l.its ++ filled l.self l.rest ≡ filled l.self l.text)

abbrev pub decreases-loop-piece : goal.decreases-loop-piece
decreases-loop-piece l = length l.rest
