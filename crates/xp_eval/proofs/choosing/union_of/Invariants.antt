use Rattle.std.proofs.Common.{◌≡◌, flat_map, take}
use Rattle.xp_meaning.specs.Conversions.{nodes_of}
use Rattle.xp_eval.proofs.choosing.union_of.Given as goal

abbrev pub invariant-loop-value : goal.invariant-loop-value
invariant-loop-value l = l.all ≡ flat_map nodes_of (take l.value-index l.values)
