use Rattle.std.proofs.Common.{◌≡◌, drop}
use Rattle.xp_meaning.specs.Conversions.{sum_from}
use Rattle.xp_calls.proofs.converting.sum_of.Given as goal

abbrev pub invariant-loop-n : goal.invariant-loop-n
invariant-loop-n l = sum_from l.tree.nodes l.initial.sum l.nodes ≡ sum_from l.tree.nodes l.sum (drop l.n-index l.nodes)
