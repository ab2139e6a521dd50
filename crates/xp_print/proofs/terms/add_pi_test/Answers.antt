use Rattle.std.proofs.Common.{refl}
use Rattle.xp_print.proofs.Printing.{begin, moved, last}
use Rattle.xp_print.proofs.terms.add_pi_test.Goals as goal

pub returns : goal.returns
returns c =
    last _ _ _ _ _ _ (moved _ (rw c.as_str.ensures at c.in_ok-add_quoted.ensures) (moved _ c.in_ok-add.ensures (begin _ _ _ refl))) c.add-2.ensures
