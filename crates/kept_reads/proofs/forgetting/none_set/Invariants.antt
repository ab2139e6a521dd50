-- None of the flags so far is set.
use Rattle.std.proofs.Common.{◌≡◌, ℕ, ◌<◌, false}
use Rattle.kept_reads.specs.Forgetting.{flag_at}
use Rattle.kept_reads.proofs.forgetting.none_set.Given as goal

abbrev pub invariant-loop-flag : goal.invariant-loop-flag
invariant-loop-flag l = (slot : ℕ) → slot < l.flag-index → flag_at l.flags.items slot ≡ false
