use Rattle.std.proofs.Common.{◌≡◌, length}
use Rattle.xp_values.specs.Comparisons.{text_test, some_pair}
use Rattle.xp_values.proofs.text_comparisons.some_texts.Given as goal

-- the texts before these pass with none
abbrev pub invariant-loop-left : goal.invariant-loop-left
invariant-loop-left l = some_pair (text_test l.op) l.left l.right ≡ some_pair (text_test l.op) l.fn.left l.right

abbrev pub decreases-loop-left : goal.decreases-loop-left
decreases-loop-left l = length l.left
