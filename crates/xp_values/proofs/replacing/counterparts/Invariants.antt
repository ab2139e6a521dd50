use Rattle.std.proofs.Common.{◌≡◌, ℕ, chars, nat_eq}
use Rattle.std.specs.HashMap.{get}
use Rattle.std.specs.Str.Iter.{chars_rest}
use Rattle.xp_values.specs.Texts.{counterpart}
use Rattle.xp_values.proofs.ReplaceLemmas.{Beside}
use Rattle.xp_values.proofs.replacing.counterparts.Given as goal

abbrev pub invariant-loop-c : goal.invariant-loop-c
invariant-loop-c l = record {
  map_so_far : (q : ℕ) → get nat_eq l.counterparts q ≡ counterpart l.yielded (chars l.fn.to) q;
  beside : Beside l.yielded (chars l.fn.to) (chars_rest l.others);
}
