use Rattle.std.proofs.Common.{◌≡◌, length}
use Rattle.std.specs.List.{list_any}
use Rattle.xp_values.specs.Comparisons.{text_test}
use Rattle.xp_values.proofs.text_comparisons.some_text.Given as goal

-- the texts before these do not pass
abbrev pub invariant-loop-right : goal.invariant-loop-right
invariant-loop-right l = list_any (text_test l.op l.x) l.right ≡ list_any (text_test l.op l.x) l.fn.right

abbrev pub decreases-loop-right : goal.decreases-loop-right
decreases-loop-right l = length l.right
