use Rattle.std.proofs.Common.{string_bytes, nat_eq}
use Rattle.std.specs.HashMap.{get}
use Rattle.xp_values.specs.inner.Replacing.{in_place}
use Rattle.xp_values.proofs.ReplaceLemmas.{Limited}
use Rattle.xp_values.proofs.replacing.all_replaced.Given as goal

abbrev pub invariant-loop-c : goal.invariant-loop-c
invariant-loop-c l = Limited (in_place (get nat_eq l.counterparts)) l.yielded (string_bytes l.text) l.fits
