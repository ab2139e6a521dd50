use Rattle.std.proofs.Common.{◌≡◌, ◌++◌, length, string_bytes}
use denote.Text.{Utf8}
use denote.Shadow.{shadow}
use Rattle.pyx_core.specs.Escapes.{unescaped}
use Rattle.pyx_core.proofs.escapes.undo_all.Given as goal

abbrev pub invariant-loop-run : goal.invariant-loop-run
invariant-loop-run l = shadow (Utf8 l.rest) × (unescaped l.text ≡ string_bytes l.plain ++ unescaped l.rest)

abbrev pub decreases-loop-run : goal.decreases-loop-run
decreases-loop-run l = length l.rest
