use Rattle.std.proofs.Common.{string_bytes}
use Rattle.xp_values.proofs.SpaceLemmas.{Normalized}
use Rattle.xp_values.proofs.spaces.normalize_space.Given as goal

abbrev pub invariant-loop-c : goal.invariant-loop-c
invariant-loop-c l = Normalized l.yielded (string_bytes l.text) l.pending
