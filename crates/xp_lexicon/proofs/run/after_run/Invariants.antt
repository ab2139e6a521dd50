use Rattle.std.proofs.Common.{List, ℕ, length}
use denote.Text.{Utf8}
use denote.Shadow.{shadow}
use Rattle.xp_lexicon.specs.inner.Scanning.{holds, Ran}
use Rattle.xp_lexicon.proofs.run.after_run.Given as goal

abbrev pub invariant-loop-c : goal.invariant-loop-c
invariant-loop-c l = shadow (Utf8 l.rest) × ((rest : List ℕ) → Ran (holds l.class) l.rest rest → Ran (holds l.class) l.text rest)

abbrev pub decreases-loop-c : goal.decreases-loop-c
decreases-loop-c l = length l.rest
